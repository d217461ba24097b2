pub mod Bisection
pub mod Halves
pub mod Lesser
pub mod Numbers
pub mod Piling
