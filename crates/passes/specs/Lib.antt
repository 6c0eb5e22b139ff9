-- What the contracts of `passes` cite.
pub mod Rows
pub mod Pass
pub mod Passed
