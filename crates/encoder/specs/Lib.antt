pub mod Run
pub mod Faithful
pub mod Tested
pub mod Bench
