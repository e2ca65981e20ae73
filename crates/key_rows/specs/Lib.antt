pub mod PublishedVectors
pub mod WorkedTypes
