pub mod EqColumnStored
pub mod Ordering
pub mod EqHeights
pub mod Passes
pub mod OrderingPass
pub mod ColumnsPass
