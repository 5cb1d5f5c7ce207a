-- The laws of sets of marks, which the layers above use instead of the definitions' text.
pub mod Numbers
pub mod Words
pub mod Lowest
pub mod Sets
pub mod Members
pub mod Pop
