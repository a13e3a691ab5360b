pub mod Views
pub mod Entries
pub mod Stops
pub mod Answers
pub mod RowTexts
pub mod Tokens
