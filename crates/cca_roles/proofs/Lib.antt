pub mod BodyLaws
pub mod DecidableLaws
pub mod DirectoryLaws
pub mod OpeningLaws
pub mod PointLaws
pub mod StandLaws
pub mod TableLaws
pub mod TotalLaws
