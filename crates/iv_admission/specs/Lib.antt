pub mod Admitting
pub mod ByToken
pub mod Scouting
