pub mod BlockLemmas
pub mod ChainLemmas
pub mod CodeLemmas
pub mod CutLaws
pub mod CutLemmas
pub mod PlaceLemmas
