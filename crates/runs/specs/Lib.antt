-- What a run answers.
pub mod Runs
