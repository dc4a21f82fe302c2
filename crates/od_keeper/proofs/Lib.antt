pub mod Called
pub mod Growing
pub mod LastImages
pub mod Lists
