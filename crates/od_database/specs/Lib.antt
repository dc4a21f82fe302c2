pub mod Agreements
pub mod Columns
pub mod Entries
pub mod Faults
pub mod Keeping
pub mod Numbers
pub mod Stored
pub mod Writes
