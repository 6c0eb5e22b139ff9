-- Laws of traces of runs.
pub mod Low
pub mod Delivered
pub mod RunRecords
pub mod Theorems
pub mod Trials
