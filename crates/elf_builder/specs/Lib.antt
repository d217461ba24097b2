-- The file that the builder makes, field by field.
pub mod Given
pub mod Fields
pub mod Headers
pub mod File
