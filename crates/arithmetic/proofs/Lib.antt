pub mod Tests
pub mod Integers
pub mod Bits
pub mod Offset
