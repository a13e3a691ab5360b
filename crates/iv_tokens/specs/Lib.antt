pub mod Apart
pub mod Entries
pub mod Granted
pub mod Lines
pub mod Moments
pub mod Web
