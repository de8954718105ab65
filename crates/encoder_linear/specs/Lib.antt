pub mod Sums
pub mod Encoded
pub mod Accepted
