-- What the proof of `read_case` uses.
pub mod Splits
