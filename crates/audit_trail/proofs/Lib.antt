pub mod FieldLaws
pub mod BodyLaws
pub mod TrailLaws
pub mod OpeningLaws
pub mod MediumLaws
pub mod TotalLaws
mod ReadingLaws
mod OpenedLaws
