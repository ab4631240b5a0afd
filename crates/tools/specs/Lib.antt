pub mod Tools
pub mod Plans
pub mod Calls
pub mod Lent
pub mod Examples
pub mod Laws
pub mod Sound
