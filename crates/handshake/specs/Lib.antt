-- What a reader must believe of a channel's table: data, valid and ready, cycle by cycle.
pub mod Table
