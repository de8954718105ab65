pub mod Printing
pub mod Counting
