pub mod Certificate
pub mod Plate
pub mod Edges
pub mod Rows
pub mod Rule9
