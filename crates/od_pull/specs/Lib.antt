pub mod Digests
pub mod Parts
pub mod Pulls
pub mod Stops
