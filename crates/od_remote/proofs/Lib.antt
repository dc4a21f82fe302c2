pub mod Logs
pub mod Repeats
pub mod Unserved
