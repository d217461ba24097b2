pub mod Numbered
pub mod Rows
pub mod Names
pub mod LineTable
pub mod LastTable
