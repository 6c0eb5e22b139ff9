-- Laws of ports in lent arrays.
pub mod Puts
pub mod ByKind
pub mod Copies
