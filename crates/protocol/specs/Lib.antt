pub mod World
pub mod Promise
pub mod Invariant
pub mod Counts
pub mod Would
