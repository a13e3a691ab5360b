pub mod HandedTokens
pub mod KeptBehind
pub mod ScoutedEnds
pub mod TokenCounts
