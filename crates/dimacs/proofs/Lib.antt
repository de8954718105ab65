pub mod Examples
pub mod Parts
pub mod Printing
pub mod Sizes
pub mod Counting
