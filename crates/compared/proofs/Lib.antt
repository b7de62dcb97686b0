pub mod Outcomes
pub mod Reporting
pub mod Stepping
