pub mod Products
pub mod Encoded
pub mod Accepted
