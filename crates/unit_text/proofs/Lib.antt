pub mod Loops
pub mod KeptLists
pub mod ListContexts
pub mod TableLaws
pub mod TableTileLaws
pub mod EntryCounts
pub mod StreamLaws
pub mod PlainTexts
