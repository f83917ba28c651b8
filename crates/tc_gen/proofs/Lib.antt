mod GeneratedRows
mod LinesLeft
pub mod OneLine
pub mod LineLengths
mod Hearing
