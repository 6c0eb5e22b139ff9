-- Laws of writing a form.
pub mod Storing
pub mod Writes
pub mod Packs
pub mod Fields
pub mod Answers
pub mod Numbers
-- The round trips, and forms of document 01.
pub mod Theorems
pub mod Examples
