pub mod Integers
pub mod Bits
pub mod Offset
