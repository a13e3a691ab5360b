pub mod LineParts
pub mod Blanks
pub mod FormValues
pub mod Lines
pub mod Meaning
pub mod Options
pub mod FirstKey
