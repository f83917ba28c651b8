pub mod PlaceRoom
mod LevelLaws
pub mod LevelSteps
mod GuessedFields
mod LearnedSteps
pub mod RecordShape
mod TogetherLaws
mod TakenFields
mod LastObject
