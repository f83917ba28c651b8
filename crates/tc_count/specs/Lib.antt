pub mod Gathered
pub mod Counting
