pub mod Begins
pub mod Cuts
pub mod Found
pub mod Links
pub mod LongestName
pub mod SectionSize
pub mod Spelling
