-- What the functions of netdiff ask of each other.
pub mod Waits
