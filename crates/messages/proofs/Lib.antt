pub mod Cases
pub mod Laying
pub mod Messages
pub mod Outcomes
