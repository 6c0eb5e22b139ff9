-- Laws of a trace that is read back.
pub mod Reading
