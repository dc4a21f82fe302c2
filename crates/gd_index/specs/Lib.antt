pub mod Counted
pub mod Dated
pub mod Indexed
