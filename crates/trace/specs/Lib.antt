-- What a reader must believe of a trace: records as numbers and as bytes, and the numbers that bytes make.
pub mod Numbers
pub mod Records
