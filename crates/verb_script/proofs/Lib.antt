pub mod DigitLemmas
pub mod FieldLaws
pub mod FormLaws
pub mod GrammarLaws
mod PartLemmas
pub mod PlainRows
pub mod PointLemmas
pub mod ReadingLaws
pub mod RowsApart
pub mod RowsLike
pub mod TypeLaws
pub mod WordLemmas
