pub mod Numbers
pub mod Bodies
pub mod Items
pub mod Words
pub mod Outcomes
