pub mod Along
pub mod Outcomes
