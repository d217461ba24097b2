pub mod Codes
pub mod FaultMessages
pub mod Span
pub mod Leb
pub mod Reading
pub mod ReaderLaws
pub mod Times
pub mod Walk
