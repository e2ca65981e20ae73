pub mod ByRecords
pub mod Judging
pub mod Needing
pub mod Standing
pub mod Stored
