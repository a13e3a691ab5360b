pub mod FirstNumber
pub mod TokenParts
pub mod Lines
pub mod Slots
