pub mod Audit
pub mod Reading
pub mod Writing
pub mod Laws
