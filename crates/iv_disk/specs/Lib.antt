pub mod Disk
pub mod Kept
