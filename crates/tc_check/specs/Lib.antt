pub mod Counting
pub mod Long
pub mod Naming
pub mod Faults
pub mod Answers
pub mod Verdicts
