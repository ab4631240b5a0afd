pub mod Lists
pub mod Puts
pub mod Outputs
pub mod Laws
pub mod Pieces
