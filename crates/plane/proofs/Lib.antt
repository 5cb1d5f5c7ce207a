pub mod Whole
pub mod Laws
