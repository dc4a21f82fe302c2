pub mod Kept
pub mod Matching
pub mod Rules
pub mod Search
pub mod Walked
