pub mod Entering
pub mod Reads
pub mod Speaking
pub mod Tallied
