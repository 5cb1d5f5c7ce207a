-- The laws of the table of left sets, which the layers above use instead of the definitions' text.
pub mod Table
pub mod Triangle
pub mod Cross
