pub mod SealLaws
pub mod BenchLemmas
