-- Laws of the exports: a run's fields are small, the refusals of a run from bytes, and what it answers.
pub mod SmallRuns
pub mod Refusals
pub mod Answers
-- One answer, whose four fields come back.
pub mod Theorems
