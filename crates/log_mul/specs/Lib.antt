pub mod Added
pub mod Bits
