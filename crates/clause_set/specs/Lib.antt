pub mod Bytes
pub mod Clause
pub mod Stores
