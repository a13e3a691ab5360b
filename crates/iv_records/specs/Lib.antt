pub mod Cuts
pub mod Names
pub mod Journal
pub mod Parsed
pub mod Views
pub mod Laws
