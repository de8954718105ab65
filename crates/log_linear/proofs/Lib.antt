pub mod Comparing
pub mod Literals
