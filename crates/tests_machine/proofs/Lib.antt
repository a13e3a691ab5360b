pub mod TextValues
pub mod Copies
pub mod ManyCopies
