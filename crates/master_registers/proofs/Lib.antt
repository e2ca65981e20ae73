pub mod BodyLaws
pub mod ChainLaws
pub mod ChangeLemmas
pub mod FormLemmas
pub mod LoadedLaws
