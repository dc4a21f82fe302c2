pub mod Pieces
pub mod Standing
pub mod Conversing
pub mod Logging
pub mod Counting
pub mod Writing
