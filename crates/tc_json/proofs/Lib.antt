pub mod Before
pub mod Depths
pub mod Floats
pub mod Names
pub mod Values
