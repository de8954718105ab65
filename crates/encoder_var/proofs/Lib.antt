pub mod Settings
pub mod Added
pub mod Acceptance
