-- What a reader must believe of two recordings side by side: gathering, comparing, the rest.
pub mod Gather
pub mod Compare
