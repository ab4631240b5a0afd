pub mod Telling
pub mod Keeping
