pub mod Scans
pub mod Visits
