pub mod Cuts
pub mod Faults
pub mod Queries
pub mod Resources
pub mod Targets
pub mod Asked
