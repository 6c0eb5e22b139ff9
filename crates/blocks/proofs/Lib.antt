-- Laws of one block.
pub mod Folds
pub mod Bits
pub mod Registers
pub mod Options
pub mod Local
pub mod Turns
pub mod Shapes
pub mod Numbers
pub mod Counts
pub mod Stays
pub mod Emptied
pub mod Asking
pub mod Trials
