pub mod Shares
pub mod Gathered
pub mod Answers
pub mod Meaning
pub mod Merging
