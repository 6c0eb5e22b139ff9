-- What a reader must believe of bits and of the reader over them.
pub mod Bits
pub mod Steps
