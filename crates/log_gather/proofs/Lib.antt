pub mod Pushing
pub mod Widths
pub mod Constants
pub mod EqColumns
pub mod Steps
pub mod Slices
