pub mod Codecs
pub mod Fields
pub mod Lists
pub mod Whole
