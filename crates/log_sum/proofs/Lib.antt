pub mod Offsets
pub mod Filling
pub mod Settings
