-- What the proofs of several functions use.
pub mod Words
pub mod Answers
pub mod Shared
pub mod Rests
pub mod Meaning
pub mod Examples
