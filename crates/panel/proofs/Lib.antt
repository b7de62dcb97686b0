pub mod Cases
pub mod Calling
pub mod Outcomes
