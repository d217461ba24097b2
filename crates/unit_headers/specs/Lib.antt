pub mod Refusals
pub mod RefusalMessages
pub mod Kinds
pub mod Links
pub mod Headers
pub mod Units
