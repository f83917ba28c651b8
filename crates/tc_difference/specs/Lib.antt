pub mod Differences
pub mod Found
pub mod Comparing
pub mod Fronts
