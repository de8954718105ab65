pub mod Growing
pub mod Pushing
pub mod Reached
pub mod Steps
pub mod Terms
