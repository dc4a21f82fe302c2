pub mod Closings
pub mod Heard
pub mod Said
pub mod Sections
pub mod RequestsAgain
pub mod RepliesAgain
pub mod Contents
