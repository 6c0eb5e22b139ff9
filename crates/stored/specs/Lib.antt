-- What a reader must believe of the stored form.
pub mod Form
pub mod Sizes
-- Working definitions: what the private functions promise.
pub mod Reads
