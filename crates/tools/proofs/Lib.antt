pub mod Looking
pub mod Turns
pub mod Whole
pub mod Named
