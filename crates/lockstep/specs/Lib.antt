-- What is claimed of the words of placements.
pub mod Claims
