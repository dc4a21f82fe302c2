pub mod Drives
pub mod Replies
