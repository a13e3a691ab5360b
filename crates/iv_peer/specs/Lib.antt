pub mod Socket
pub mod Hearing
pub mod Lives
pub mod Reading
