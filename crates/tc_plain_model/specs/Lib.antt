pub mod Writes
pub mod Store
pub mod Room
