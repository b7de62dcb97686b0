pub mod Filling
pub mod Counting
pub mod Marks
pub mod Quorum
pub mod Form
pub mod Lines
pub mod Turns
pub mod Outcomes
