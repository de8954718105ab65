pub mod Statuses
pub mod Adding
pub mod Acceptance
pub mod Answering
pub mod Ready
