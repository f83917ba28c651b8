pub mod Cutting
pub mod Linking
pub mod Longest
pub mod Section
