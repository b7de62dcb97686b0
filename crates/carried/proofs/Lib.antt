pub mod Past
pub mod Rows
pub mod Lengths
pub mod Outcomes
