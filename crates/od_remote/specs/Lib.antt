pub mod Again
pub mod Asking
pub mod Counting
