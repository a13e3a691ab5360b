pub mod Known
pub mod DiskBytes
