mod CallLaws
mod DiskLemmas
mod JudgeLemmas
pub mod KnownLemmas
mod LabelLaws
mod LeaseLaws
mod LineLaws
mod MoveLemmas
pub mod OpeningLemmas
mod PartLaws
mod PieceLaws
mod RecordLaws
mod RestLemmas
mod ToldLemmas
mod BothLemmas
mod CalledLemmas
mod LeftLemmas
