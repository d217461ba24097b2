pub mod Added
pub mod Numbers
pub mod Escapes
pub mod Bytes
pub mod Laws
