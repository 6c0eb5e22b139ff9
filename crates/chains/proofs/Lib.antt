-- Laws of chains.
pub mod Trails
