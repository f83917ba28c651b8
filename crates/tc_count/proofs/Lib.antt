pub mod GatheredValues
pub mod Grouping
pub mod PlaceMade
pub mod Walks
