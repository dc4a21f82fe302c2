pub mod Conditions
pub mod Falling
pub mod Once
pub mod Parts
pub mod Uploading
