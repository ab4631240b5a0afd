pub mod Bytes
pub mod Growing
pub mod Standing
pub mod Endings
pub mod Levelling
pub mod Turning
pub mod Written
