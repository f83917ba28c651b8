pub mod Paths
pub mod Places
pub mod Search
pub mod Writing
pub mod Values
pub mod Ordered
pub mod Reading
