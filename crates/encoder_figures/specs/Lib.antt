pub mod Figures
pub mod Foretells
