pub mod Written
mod Closing
mod FileRows
pub mod Heads
mod Directories
mod Marks
mod Sections
mod Fronts
pub mod Files
mod Loaded
mod Lookups
mod SpanLaws
mod Fetched
pub mod EntryRecords
pub mod EntryPlaces
mod SpelledContents
pub mod Versions
pub mod Windows
