pub mod NumbersRead
pub mod Places
