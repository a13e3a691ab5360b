pub mod Front
pub mod Served
pub mod Progress
pub mod Causes
pub mod Desks
