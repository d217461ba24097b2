-- How the generated file reads.
mod Steps
mod Lengths
pub mod FoundSections
pub mod Written
pub mod Items
mod Declarations
mod UnitItems
pub mod Headers
mod Entries
mod Texts
pub mod Dumps
mod KeyLists
pub mod Keys
