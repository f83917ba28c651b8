pub mod Refusals
pub mod Asks
pub mod Commands
pub mod Rows
pub mod Replies
pub mod Forms
