pub mod Showing
pub mod KeptNames
pub mod Places
pub mod NamedSteps
pub mod UnitSteps
pub mod DeclaredKeys
pub mod Reporting
pub mod SeenLaws
