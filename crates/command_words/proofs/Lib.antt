pub mod CountingLemmas
pub mod DemoLemmas
mod ListLemmas
mod Walks
pub mod WordLemmas
