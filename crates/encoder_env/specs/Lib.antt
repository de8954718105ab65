pub mod WellFormed
pub mod Bounds
