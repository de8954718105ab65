pub mod Most
pub mod OffsetTerms
pub mod OffsetSum
