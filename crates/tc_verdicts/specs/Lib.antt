pub mod Lines
pub mod Faults
pub mod Kits
pub mod Stages
