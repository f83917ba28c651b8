pub mod Newest
pub mod Heads
pub mod Shown
pub mod Joined
pub mod Scans
