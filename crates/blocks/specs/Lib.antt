-- What a reader must believe of one block, in document 01's order.
pub mod Folds
pub mod Kinds
pub mod Numbers
pub mod Ports
pub mod Words
pub mod Signals
pub mod Equations
pub mod Shape
pub mod Asking
pub mod Firing
pub mod Refusals
pub mod States
