pub mod Encoded
pub mod Answers
