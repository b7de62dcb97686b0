pub mod Steps
pub mod Search
pub mod Numbers
pub mod Drain
pub mod SetUp
pub mod Moves
