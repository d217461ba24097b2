pub mod Counting
pub mod Pairs
pub mod Shapes
pub mod Declarations
pub mod Lookup
