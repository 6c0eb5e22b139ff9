-- What a reader must believe of a chain.
pub mod Chain
-- Working definitions of our own functions' contracts.
pub mod Wiring
pub mod Rows
