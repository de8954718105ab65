pub mod Numbers
pub mod Foretold
pub mod Measured
