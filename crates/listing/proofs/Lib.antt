pub mod Growing
pub mod Loops
pub mod Walks
pub mod Listings
pub mod Filling
