pub mod Entries
pub mod Levels
pub mod Steps
