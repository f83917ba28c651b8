pub mod Newest
pub mod Merging
pub mod Jobs
pub mod Inputs
pub mod Faults
