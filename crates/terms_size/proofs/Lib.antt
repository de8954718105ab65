pub mod Measuring
pub mod Compares
pub mod Equates
