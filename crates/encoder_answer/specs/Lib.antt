pub mod Outcome
pub mod Adding
pub mod Call
pub mod Encoded
pub mod Accepted
