-- What a reader must believe of a placed net.
pub mod Placed
-- What is claimed of it.
pub mod Claims
