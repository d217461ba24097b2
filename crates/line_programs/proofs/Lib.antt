pub mod Lists
mod Fronts
mod LastLaws
mod Entries
mod Defined
