pub mod Ends
pub mod Finding
pub mod Listing
pub mod Looking
pub mod Reading
pub mod Scanned
pub mod Visiting
pub mod Walks
