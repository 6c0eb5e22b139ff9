-- The promises, proved, and document 01's starred trial runs.
pub mod Theorems
pub mod Section5
pub mod Paragraphs
pub mod Trials
