pub mod Asking
pub mod Calls
pub mod Causes
pub mod Handling
pub mod Sending
pub mod Stripping
