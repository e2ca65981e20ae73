pub mod Cells
pub mod Faults
pub mod Medium
pub mod Ranges
pub mod SilentMedium
pub mod SpareBytes
pub mod WhereTold
