pub mod FieldFigures
pub mod FileFigures
