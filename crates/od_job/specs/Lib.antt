pub mod Asking
pub mod Turns
pub mod Runs
pub mod Fits
pub mod Examples
