pub mod Longest
pub mod Replies
