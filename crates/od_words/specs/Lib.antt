pub mod Commands
pub mod Found
pub mod Hosts
pub mod Options
