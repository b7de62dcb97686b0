pub mod Back
pub mod Senders
pub mod Outcomes
