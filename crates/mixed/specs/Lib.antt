pub mod Infos
pub mod Filling
