pub mod Lengths
pub mod Fields
pub mod Cases
pub mod Laws
pub mod Writing
pub mod Outcomes
