-- The generated file, byte by byte, and its sections.
pub mod Generated
pub mod Views
pub mod Keys
