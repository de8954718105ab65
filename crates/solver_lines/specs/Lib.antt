pub mod Lines
pub mod Scans
