pub mod Adding
pub mod Bytes
pub mod ReadBack
pub mod Tails
pub mod Writing
