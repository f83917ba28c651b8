pub mod Codec
pub mod Reading
pub mod Counts
