pub mod Pouring
pub mod Areas
pub mod Outcomes
