pub mod Lines
pub mod Listeners
pub mod Told
