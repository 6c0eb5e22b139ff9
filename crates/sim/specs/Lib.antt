-- What the public calls answer.
pub mod Calls
-- What our own functions work out.
pub mod Laid
