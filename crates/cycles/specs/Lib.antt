-- What a reader must believe of a cycle, in document 01's order.
pub mod Streams
pub mod Wires
pub mod Cycle
pub mod State
pub mod Step
-- What the code of a step is proved against.
pub mod Solved
