pub mod Connection
pub mod Does
pub mod Replays
pub mod Serves
