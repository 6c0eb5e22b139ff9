-- Laws of the passes.
pub mod Passes
pub mod Listings
pub mod Sites
pub mod Arms
pub mod Stages
