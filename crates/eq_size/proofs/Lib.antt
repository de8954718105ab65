pub mod Steps
pub mod Bounds
pub mod Left
pub mod Columns
