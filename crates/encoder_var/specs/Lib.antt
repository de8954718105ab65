pub mod Settings
pub mod Encoded
pub mod Accepted
