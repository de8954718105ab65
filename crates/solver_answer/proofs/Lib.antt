pub mod Splits
pub mod Numerals
pub mod RoundTrip
pub mod Assignment
pub mod Sizes
pub mod Examples
