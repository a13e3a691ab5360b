pub mod Texts
pub mod Bytes
pub mod JournalCuts
pub mod JournalLines
pub mod TornJournals
pub mod ReadJournals
pub mod PlainLines
