pub mod Cutting
pub mod Values
pub mod Plain
pub mod Again
