-- Laws of steps: blocks that are worked out solve the net's equations, and what a cycle leaves is the step of its state.
pub mod Netted
pub mod Results
pub mod Verdicts
pub mod Answers
