pub mod StandingTexts
pub mod Entries
pub mod EntryLines
pub mod Standings
