pub mod Channels
pub mod Posting
