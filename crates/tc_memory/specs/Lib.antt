pub mod Table
pub mod Calls
pub mod Meaning
pub mod DocumentTables
