-- What a reader must believe of loading and writing.
pub mod Calls
-- Working definitions: what the private functions promise.
pub mod Over
