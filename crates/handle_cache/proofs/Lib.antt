pub mod Keys
pub mod Calls
pub mod Scans
pub mod WordLaws
pub mod Gains
