pub mod Walking
pub mod Ends
pub mod Lines
pub mod Components
pub mod Verdict
pub mod Bad
pub mod Further
pub mod Keeping
