pub mod ClientChanges
pub mod GrantTexts
pub mod ShapeLines
pub mod NewRights
