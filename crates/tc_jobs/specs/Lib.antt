pub mod Faults
pub mod Listing
pub mod Lists
pub mod ReadBack
