pub mod BigEndianWords
pub mod Words
pub mod Layouts
pub mod Written
pub mod DenotedKeys
pub mod Examples
