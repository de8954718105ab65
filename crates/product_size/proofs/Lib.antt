pub mod Multiplying
pub mod Offsetting
