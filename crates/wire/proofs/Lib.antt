pub mod Cases
pub mod Outcomes
pub mod Laws
pub mod Writing
