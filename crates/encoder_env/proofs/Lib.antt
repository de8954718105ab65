pub mod Tests
pub mod Kept
pub mod Records
pub mod Bounds
