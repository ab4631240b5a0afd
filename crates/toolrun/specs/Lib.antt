pub mod Runs
pub mod Told
pub mod Kept
