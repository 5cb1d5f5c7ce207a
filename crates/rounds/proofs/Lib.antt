pub mod Filling
pub mod Turns
pub mod Readiness
pub mod Inner
mod Pairs
