pub mod FailLaws
pub mod PlaceLemmas
pub mod HalfLemmas
pub mod DrawLaws
pub mod GeneratedLemmas
