-- What a reader must believe of a trace that is read back.
pub mod Recorded
