pub mod Named
pub mod Tags
pub mod Attributes
pub mod Forms
pub mod Texts
pub mod Rows
