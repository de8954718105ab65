pub mod Values
pub mod Theorems
