pub mod Lines
pub mod Meaning
pub mod Message
pub mod Parts
pub mod Seen
pub mod Told
pub mod Worked
