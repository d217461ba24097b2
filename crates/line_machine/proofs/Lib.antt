pub mod Passing
pub mod RunLaws
pub mod Turns
