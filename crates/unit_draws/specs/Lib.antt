pub mod Windows
pub mod Seats
pub mod Rule
