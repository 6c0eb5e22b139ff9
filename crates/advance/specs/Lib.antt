-- Working definitions: what one cycle leaves in the arrays.
pub mod Cycled
