pub mod Known
pub mod Acceptance
pub mod Tested
