pub mod Running
pub mod Logs
