pub mod AsRead
pub mod GrantsKept
mod LabelsRead
mod OperandsJudged
mod StoreReads
