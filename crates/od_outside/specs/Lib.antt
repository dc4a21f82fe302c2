pub mod Asks
pub mod Bundles
pub mod Calls
pub mod Learning
pub mod Running
pub mod Seeing
pub mod Works
