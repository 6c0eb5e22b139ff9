-- Laws of the stored form and of reading it.
pub mod Lists
pub mod Codecs
pub mod Places
pub mod Many
pub mod Loads
