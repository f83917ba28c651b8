pub mod OneFirst
pub mod PlaceSizes
pub mod PlaceLaws
pub mod LeastField
pub mod FieldsWalk
pub mod NodeParts
mod DifferenceRows
