pub mod ColumnInfo
pub mod AdderState
