pub mod Asking
pub mod Fits
pub mod Explained
pub mod Alone
pub mod Undisturbed
