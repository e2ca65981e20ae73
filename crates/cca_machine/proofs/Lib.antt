pub mod Acting
pub mod CutReplies
pub mod DrawLaws
mod HexTexts
pub mod KeyedVerbs
pub mod KnownLabels
pub mod LineLaws
mod PairLaws
pub mod RankLemmas
pub mod RerunLaws
pub mod Settling
mod TableLaws
