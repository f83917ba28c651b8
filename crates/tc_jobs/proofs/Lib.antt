pub mod ListEnds
mod Growing
mod NewestContents
mod Tiles
mod Loads
mod Removals
mod Listings
