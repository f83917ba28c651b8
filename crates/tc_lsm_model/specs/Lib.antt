pub mod Contents
pub mod Lists
pub mod Tables
pub mod Flushes
pub mod Merges
pub mod Rows
