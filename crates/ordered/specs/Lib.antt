pub mod Climbing
pub mod Names
