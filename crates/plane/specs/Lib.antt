pub mod Numbers
pub mod Marks
pub mod Side
pub mod Weight
pub mod Edge
pub mod Cross
pub mod Hull
pub mod Triangle
