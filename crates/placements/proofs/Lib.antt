-- The answers by their tests, numbers in base 4, lists made longer by zeros, lines of digits.
pub mod Answering
pub mod Digits
pub mod Padding
pub mod Lines
-- The claims of specs/Claims.antt.
pub mod Theorems
pub mod Listings
