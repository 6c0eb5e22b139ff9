-- What a reader must believe of a question to a block: how a chain can end there, and who is asked next.
pub mod Endings
pub mod Questions
-- Working definitions of our own functions' contracts.
pub mod Rows
