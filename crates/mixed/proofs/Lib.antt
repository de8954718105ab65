pub mod Infos
pub mod Filling
pub mod TableTells
