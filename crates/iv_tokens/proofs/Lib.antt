pub mod Digests
pub mod KnownAtSecond
pub mod JudgedTexts
pub mod HolderNames
pub mod Plain
pub mod FileLines
pub mod Valid
