pub mod Cuts
pub mod PathSegments
pub mod Heads
pub mod AppendedTexts
pub mod Tags
pub mod Literal
