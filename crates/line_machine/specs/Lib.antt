pub mod Machine
pub mod Operations
pub mod OperationLaws
pub mod Running
