pub mod Words
pub mod Scanned
pub mod Handles
pub mod SourceLaws
