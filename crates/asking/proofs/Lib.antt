-- Laws of questions: what a block answers by numbers, and how a chain can end at a block.
pub mod Asks
pub mod Cases
