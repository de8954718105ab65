pub mod Domain
pub mod Rules
pub mod NormOp
pub mod Turned
pub mod NormCsp
pub mod Operations
