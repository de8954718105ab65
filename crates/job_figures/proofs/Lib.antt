pub mod Many
pub mod Called
pub mod Single
