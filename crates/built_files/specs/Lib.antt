-- What lies in written bytes, and the section table of a built file.
pub mod Places
pub mod Fields
pub mod Texts
pub mod Tables
