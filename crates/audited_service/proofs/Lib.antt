pub mod NotingLemmas
pub mod PlainLemmas
pub mod RecordLemmas
pub mod GrowingLemmas
pub mod RestingLemmas
pub mod TrailLemmas
pub mod RunLemmas
pub mod FullLemmas
pub mod OpeningLemmas
pub mod EndingLemmas
pub mod CourseLemmas
pub mod ProgressLemmas
pub mod BegunLemmas
pub mod LeftLemmas
mod SentLemmas
mod KeptLemmas
mod EntryLaws
mod LineLaws
mod SendingLaws
mod DamageLaws
mod ReadLaws
