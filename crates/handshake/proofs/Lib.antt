-- The protocol on every channel, and tables worked out.
pub mod Protocol
pub mod Tables
pub mod Chosen
