-- How a built file reads.
mod Headers
mod Rows
pub mod Files
