pub mod Claims
pub mod Boards
