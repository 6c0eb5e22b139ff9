-- What a reader must believe of the queue machine and of what steps deliver, and what is claimed of them.
pub mod Machine
pub mod Delivered
pub mod History
pub mod Claims
