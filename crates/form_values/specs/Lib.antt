pub mod View
pub mod FormTable
pub mod Resolved
