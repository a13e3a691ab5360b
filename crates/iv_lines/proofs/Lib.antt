pub mod Ahead
pub mod FirstLine
pub mod BytePlaces
pub mod JoinedLines
pub mod Known
pub mod Moments
pub mod LineParts
pub mod LineTexts
