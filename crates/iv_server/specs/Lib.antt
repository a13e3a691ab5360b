pub mod Sharing
pub mod Shutting
