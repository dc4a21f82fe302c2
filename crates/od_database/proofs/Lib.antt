pub mod ReadBack
pub mod Unique
