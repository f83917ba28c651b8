pub mod Faults
pub mod Memory
pub mod Moments
pub mod Standard
