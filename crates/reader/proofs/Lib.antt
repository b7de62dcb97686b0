pub mod Behind
pub mod Steps
pub mod RecordSteps
pub mod MessageSteps
pub mod Outcomes
