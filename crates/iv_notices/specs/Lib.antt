pub mod Granting
pub mod Newly
pub mod Shaping
