pub mod Endings
pub mod Learned
pub mod Ran
pub mod Sums
pub mod Turns
