pub mod Bisected
pub mod Cuts
pub mod Leads
pub mod Splitting
pub mod Walks
