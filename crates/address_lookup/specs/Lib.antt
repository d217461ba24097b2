pub mod Built
pub mod Indexed
pub mod Kept
pub mod Places
pub mod Programs
