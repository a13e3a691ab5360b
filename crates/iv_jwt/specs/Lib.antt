pub mod Hmac
pub mod Same
pub mod Documents
pub mod Tokens
pub mod Seen
pub mod Worked
