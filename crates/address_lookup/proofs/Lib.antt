pub mod Found
pub mod Gathering
pub mod Lookups
pub mod Tells
