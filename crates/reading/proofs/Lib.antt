-- The laws of reading, which the callers of `read` use instead of the definitions' text.
pub mod Tests
pub mod Text
pub mod Lines
pub mod Marks
pub mod Answer
pub mod Samples
