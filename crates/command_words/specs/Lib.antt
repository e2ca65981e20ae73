pub mod Counting
pub mod Demo
pub mod MoveWords
pub mod Sections
