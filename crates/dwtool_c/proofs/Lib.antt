pub mod Lists
pub mod UnitRows
pub mod PlaceRows
pub mod Fitted
pub mod SoFar
