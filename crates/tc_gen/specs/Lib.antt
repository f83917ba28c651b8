pub mod Generated
pub mod TwoLines
