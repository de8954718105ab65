pub mod Numbers
pub mod Fields
pub mod Places
