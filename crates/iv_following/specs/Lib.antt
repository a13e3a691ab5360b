pub mod Failing
pub mod Following
pub mod Guests
pub mod Rounds
