pub mod Intervals
pub mod Runs
pub mod Lookups
pub mod Contents
pub mod Policies
pub mod Loaded
