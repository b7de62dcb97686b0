pub mod View
pub mod Facts
