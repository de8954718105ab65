pub mod EqState
