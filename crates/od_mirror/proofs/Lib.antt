pub mod Climbing
pub mod Keyed
pub mod Learned
pub mod Lookups
pub mod Misfits
pub mod Rising
