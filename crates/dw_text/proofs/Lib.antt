pub mod Fill
pub mod Laws
