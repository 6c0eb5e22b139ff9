-- A net with one buffer more, and with the buffers of a placement: its checks.
pub mod Counting
pub mod Moved
pub mod Splitting
pub mod Placing
-- Codes one after another.
pub mod Codes
-- The claims of specs/Claims.antt.
pub mod Theorems
