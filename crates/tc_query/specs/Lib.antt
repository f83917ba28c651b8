pub mod Stored
pub mod Shown
pub mod Walking
pub mod Readers
pub mod Windows
pub mod Faults
pub mod Rows
