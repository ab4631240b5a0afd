pub mod Climbs
pub mod Shifts
pub mod Halving
