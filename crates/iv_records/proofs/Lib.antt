pub mod CutPlaces
pub mod CutParts
pub mod PartsAsText
pub mod Spelling
pub mod JournalTexts
pub mod EntryRecords
pub mod RecordRest
pub mod ClaimedNames
