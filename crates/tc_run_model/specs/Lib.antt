pub mod World
pub mod Replies
pub mod Kinds
pub mod Known
pub mod Windows
pub mod Course
