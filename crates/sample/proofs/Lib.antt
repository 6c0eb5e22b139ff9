-- Laws of the sample run.
pub mod Fills
pub mod Giving
pub mod Room
pub mod Theorems
