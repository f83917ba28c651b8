mod Among
mod LeadSteps
mod TrailSteps
pub mod Firsts
mod Hopped
pub mod Lawful
mod Led
mod Spots
