-- What the call answers, and what is promised of it.
pub mod Calls
pub mod Waits
-- Working definitions of our own functions' contracts.
pub mod Answered
