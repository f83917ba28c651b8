pub mod Grammar
pub mod Options
pub mod Fault
