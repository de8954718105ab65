pub mod Bits
pub mod Bounds
pub mod Reading
pub mod Calls
