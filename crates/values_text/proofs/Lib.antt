pub mod Examples
pub mod Printing
pub mod Sizes
