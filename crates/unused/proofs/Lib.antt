pub mod Zero
pub mod Testing
pub mod Outcomes
