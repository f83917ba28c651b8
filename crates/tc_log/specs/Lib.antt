pub mod Writes
pub mod Layout
pub mod Spelling
pub mod Reading
pub mod Judging
pub mod Frame
pub mod Appending
