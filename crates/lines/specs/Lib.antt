pub mod Integers
pub mod Numerals
pub mod Lines
pub mod Fitting
pub mod Reading
