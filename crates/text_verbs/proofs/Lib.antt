mod KeyedRows
mod SegmentRules
mod TextSizes
pub mod TextWorks
