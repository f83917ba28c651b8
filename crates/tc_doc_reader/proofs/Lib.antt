mod TokenLaws
mod Depths
mod Ascending
mod Orders
mod PlainNumbers
