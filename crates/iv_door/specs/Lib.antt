pub mod Said
pub mod Answers
pub mod Talk
pub mod Leading
pub mod Views
pub mod Worked
