-- What a reader must believe of net values, in document 01's order.
pub mod Block
pub mod Net
pub mod Loops
pub mod Verdict
-- What the check promises to stepping.
pub mod Promises
-- Working definitions of private contracts.
pub mod Ends
pub mod Order
