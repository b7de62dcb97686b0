pub mod Places
pub mod Marks
pub mod Form
pub mod Lines
