pub mod Text
pub mod Read
