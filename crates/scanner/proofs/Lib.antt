pub mod Cuts
pub mod Quotes
