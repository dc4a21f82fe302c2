pub mod Sessions
pub mod Places
pub mod Sending
pub mod Fitting
pub mod Fetching
pub mod Keeping
