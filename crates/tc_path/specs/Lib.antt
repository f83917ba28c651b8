pub mod Leads
pub mod Reached
pub mod Same
pub mod Spots
pub mod Trails
