pub mod Accepted
pub mod Choice
pub mod Sizes
pub mod Printing
pub mod Examples
