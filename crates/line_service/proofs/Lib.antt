pub mod AnswerLemmas
pub mod AnsweredLemmas
pub mod CourseLemmas
pub mod CutLines
pub mod FirstNewline
pub mod GatheringLemmas
mod LeftLemmas
pub mod LineLemmas
pub mod OpeningLemmas
pub mod PartLemmas
mod ProgressLemmas
pub mod RefillLemmas
pub mod RepliedLemmas
pub mod ReplyLemmas
pub mod RunLemmas
pub mod SendingLemmas
pub mod SessionLemmas
pub mod SpareLaws
pub mod StopLemmas
pub mod TakenLemmas
