pub mod Calls
pub mod Run
pub mod Accepted
