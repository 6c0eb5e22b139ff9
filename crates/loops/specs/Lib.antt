-- What a reader must believe of walks and loops.
pub mod Walk
