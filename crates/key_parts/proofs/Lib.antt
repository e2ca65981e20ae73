pub mod XorLemmas
pub mod TypeLemmas
pub mod PartLemmas
