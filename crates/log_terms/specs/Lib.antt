pub mod Terms
pub mod Gathered
