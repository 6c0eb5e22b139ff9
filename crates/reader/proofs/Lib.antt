-- Laws of bits and of what a reader yields.
pub mod Bits
pub mod Steps
