pub mod Runs
pub mod Claims
