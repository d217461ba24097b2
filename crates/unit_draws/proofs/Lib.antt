pub mod Sums
pub mod Occurrences
pub mod Places
pub mod Keeping
pub mod Steps
pub mod SeatSteps
pub mod FirstWords
pub mod LeastSteps
