pub mod SubLit
pub mod Added
