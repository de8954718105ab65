pub mod Domain
pub mod NormCsp
pub mod Turned
