pub mod Drawing
pub mod KeyWorks
