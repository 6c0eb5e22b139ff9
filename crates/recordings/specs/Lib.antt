-- What is promised of traces that runs wrote.
pub mod Recordings
