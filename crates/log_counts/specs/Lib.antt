pub mod Counted
pub mod Growth
pub mod Rules
