-- Laws of a cycle and of its states.
pub mod Waiting
pub mod Wiring
pub mod Joins
pub mod Stepping
pub mod Solution
pub mod States
pub mod Steps
pub mod Sustained
pub mod Emptying
pub mod Pins
