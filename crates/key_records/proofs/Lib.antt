pub mod FoundLaws
pub mod PairLaws
pub mod TurnedLaws
pub mod TurningLaws
pub mod ReadLaws
pub mod StoreLaws
pub mod AgeLaws
pub mod ReadKeys
