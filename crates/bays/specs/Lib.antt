-- What the public calls answer.
pub mod Calls
-- What is promised of lists of calls.
pub mod Promised
