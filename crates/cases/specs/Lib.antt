-- Working definitions of our own functions' contracts.
pub mod Parts
