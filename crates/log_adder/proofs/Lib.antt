pub mod ColumnStored
pub mod ColumnTerms
pub mod OneColumn
pub mod ColumnsLeft
pub mod AdderLoops
pub mod Taken
