-- What two dumps of one file tell, and its text.
pub mod Twice
pub mod Lines
