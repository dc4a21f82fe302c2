pub mod Conditions
pub mod Falling
pub mod Uploading
