pub mod Stored
pub mod Lacking
pub mod Told
pub mod Reasons
pub mod Stops
pub mod Walking
pub mod Times
pub mod Waiting
