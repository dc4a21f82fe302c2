pub mod Numbers
pub mod Sorts
