pub mod Compacted
pub mod Slots
pub mod Layout
pub mod Repacked
pub mod Meant
pub mod Outline
