pub mod Validity
pub mod Judging
pub mod DefaultLemmas
pub mod TypeLemmas
pub mod ClosingLemmas
pub mod ClosedBitLemmas
pub mod PartLemmas
