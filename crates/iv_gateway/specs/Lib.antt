pub mod Arriving
pub mod Reading
pub mod Replays
pub mod Views
pub mod Waiting
