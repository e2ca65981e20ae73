pub mod CellSteps
pub mod Media
pub mod Reading
pub mod Replacing
pub mod SpareLemmas
pub mod WhereToldLemmas
