-- What is promised of the public calls, over the definitions that their contracts cite.
pub mod Promised
pub mod Section5
pub mod Paragraphs
