pub mod Acting
pub mod Chains
pub mod Good
pub mod Knowing
pub mod Moments
pub mod Settling
pub mod Truths
pub mod Worlds
