pub mod Rows
pub mod RowColumns
pub mod Numbered
