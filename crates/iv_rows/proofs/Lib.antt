pub mod Schemas
pub mod Views
pub mod Words
