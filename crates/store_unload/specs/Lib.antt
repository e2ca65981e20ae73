pub mod Judging
pub mod Moves
pub mod Opening
pub mod Statuses
pub mod Stops
pub mod Telling
pub mod Unloading
pub mod Writing
