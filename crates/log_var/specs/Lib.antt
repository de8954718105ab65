pub mod Record
pub mod Settings
pub mod Calls
pub mod Parts
