pub mod Sends
pub mod Area
pub mod Tally
