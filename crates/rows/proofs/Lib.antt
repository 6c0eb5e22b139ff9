-- Laws of blocks by kind, of picked orders, of ends, and of a net that the check accepts.
pub mod Lists
pub mod Picks
pub mod Ascends
pub mod Accepted
