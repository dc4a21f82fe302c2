pub mod Calling
pub mod Glue
pub mod Knowing
pub mod Lifting
pub mod Working
