pub mod Whole
pub mod Taking
pub mod Given
pub mod Lines
pub mod Answers
