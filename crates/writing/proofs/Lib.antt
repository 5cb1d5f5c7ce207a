-- The laws of the listing's text and of writing into a buffer.
pub mod Digits
pub mod Lines
pub mod Sheets
pub mod Pairs
pub mod Lengths
pub mod Examples
