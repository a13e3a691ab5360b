pub mod Journal
pub mod Reading
pub mod Laws
pub mod Ends
pub mod Worked
