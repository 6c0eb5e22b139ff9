-- Firings of a net with buffers placed on its channels, followed step by step in the net without them; and the proofs of the claims.
pub mod Lockstep
pub mod Views
pub mod Following
pub mod Theorems
pub mod Trials
