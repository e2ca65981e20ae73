pub mod DiskSteps
pub mod Lists
pub mod Logging
pub mod Overwriting
pub mod Staging
mod Anew
