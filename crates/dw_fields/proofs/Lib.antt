pub mod LebSums
pub mod LebLaws
