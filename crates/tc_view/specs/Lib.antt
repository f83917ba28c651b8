pub mod History
pub mod Pieces
pub mod Changes
pub mod Holding
pub mod Rules
pub mod Views
pub mod Places
