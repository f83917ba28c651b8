pub mod Names
pub mod Errors
pub mod Watch
pub mod Device
pub mod Shelf
