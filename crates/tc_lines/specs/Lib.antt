pub mod Answer
pub mod Giving
pub mod Holding
pub mod Needed
