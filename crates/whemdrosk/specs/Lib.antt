-- What the exports answer.
pub mod Exports
