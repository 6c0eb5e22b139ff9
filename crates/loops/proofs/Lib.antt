-- Laws of walks and loops.
pub mod Pigeon
pub mod Cycle
pub mod Free
