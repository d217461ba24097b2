-- What contracts on the outside say, and the laws that the crates above use.
pub mod Faults
pub mod Gains
pub mod GainsLaws
pub mod Reads
pub mod Memory
pub mod StopMessages
