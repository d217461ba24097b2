pub mod Indexed
pub mod Kept
pub mod Rows
pub mod Runs
