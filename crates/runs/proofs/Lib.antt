-- Laws of runs: a cycle on arrays is the step of its state, and cycles one after another are the run.
pub mod Induction
pub mod StepLaws
pub mod RunLaws
pub mod GoingLaws
pub mod RefusalLaws
