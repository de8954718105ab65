pub mod Columns
pub mod SignSum
pub mod Compared
pub mod EqSum
pub mod Operations
