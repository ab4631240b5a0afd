pub mod Joins
pub mod Parts
pub mod Local
pub mod Loops
pub mod Placeless
pub mod Sources
pub mod Flaws
pub mod Promises
