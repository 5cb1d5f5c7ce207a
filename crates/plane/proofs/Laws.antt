-- The laws of the plane's definitions, which the layers above use instead of the definitions' text.
pub mod Tells
pub mod Numbers
pub mod Marks
pub mod Bounds
pub mod Side
pub mod Asked
pub mod Bits
pub mod Segment
pub mod Cross
pub mod Weight
pub mod Line
pub mod Edge
pub mod Hull
pub mod Triangle
