pub mod Standing
pub mod Causing
pub mod Ending
pub mod Leading
