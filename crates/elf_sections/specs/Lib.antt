pub mod Headers
pub mod Laws
pub mod Layouts
pub mod Names
pub mod RefusalMessages
pub mod Refusals
pub mod Rows
pub mod Shapes
