-- Working definitions: which blocks rest, and streams and masks by the blocks' own numbers.
pub mod Flat
pub mod Ends
