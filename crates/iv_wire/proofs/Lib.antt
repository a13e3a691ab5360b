pub mod RunAnswers
pub mod Ran
pub mod Sums
pub mod Turns
