pub mod Names
pub mod Runs
pub mod Laws
pub mod Worked
pub mod Views
