pub mod Turning
pub mod Handing
