pub mod Shown
pub mod NamedEntries
pub mod NamedLaws
pub mod Seen
pub mod Kept
pub mod Named
pub mod StopMessages
