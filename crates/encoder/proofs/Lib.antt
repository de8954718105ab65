pub mod Invariant
pub mod SettingKept
pub mod RuleKept
pub mod Faithful
pub mod Bench
pub mod Lengths
