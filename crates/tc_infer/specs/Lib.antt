pub mod Levels
pub mod Together
pub mod Known
