pub mod Bench
pub mod Bytes
pub mod Front
pub mod Lease
pub mod Lending
pub mod Schedule
pub mod Secret
pub mod ShortInside
