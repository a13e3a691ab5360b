pub mod Bounds
pub mod Tokens
pub mod Feeds
pub mod Clients
pub mod Parsed
pub mod Kept
