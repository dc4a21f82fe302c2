pub mod Called
pub mod GoingOn
pub mod Images
pub mod Inserting
pub mod Keeping
pub mod Memory
pub mod Sound
pub mod Undisturbed
