pub mod Changes
pub mod EveryDrive
pub mod Given
pub mod Order
pub mod Placed
pub mod Served
