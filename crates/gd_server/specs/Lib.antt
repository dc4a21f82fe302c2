pub mod Counts
pub mod Messages
pub mod Replies
pub mod Inboxes
pub mod Serving
pub mod Drives
