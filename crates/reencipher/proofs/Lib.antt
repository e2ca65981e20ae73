pub mod CellLaws
pub mod LeftLaws
pub mod RowLaws
pub mod RunLaws
pub mod TokenLaws
pub mod TurnLaws
