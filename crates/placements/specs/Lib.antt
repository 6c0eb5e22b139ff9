-- What a reader must believe of placements and of their list.
pub mod Calls
pub mod Listing
-- Working definitions of private contracts.
pub mod Bases
-- What is claimed of them.
pub mod Claims
