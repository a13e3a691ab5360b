pub mod Lines
pub mod Pairs
pub mod Signs
pub mod Worlds
