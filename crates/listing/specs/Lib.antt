pub mod Reads
pub mod Entries
pub mod Listing
pub mod Machine
pub mod Turning
pub mod Putting
