-- What the contracts of `ports` cite: where a block's ports are, and what it is for the block to be worked out there.
pub mod Places
pub mod Worked
