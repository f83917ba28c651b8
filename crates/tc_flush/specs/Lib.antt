pub mod Recounting
pub mod Flushable
pub mod Flushing
pub mod Progress
pub mod Jobs
pub mod Counting
