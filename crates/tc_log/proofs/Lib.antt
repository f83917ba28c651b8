pub mod Entries
pub mod Frames
pub mod Logs
pub mod Kept
pub mod Created
pub mod Torn
pub mod Appended
mod LogRows
