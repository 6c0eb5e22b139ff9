-- What a reader must believe of the numbers that a person types.
pub mod Typed
