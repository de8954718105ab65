pub mod Sized
pub mod Counted
