pub mod Called
pub mod Refused
pub mod Running
pub mod AcceptedRun
pub mod Examples
pub mod Many
