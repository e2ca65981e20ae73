pub mod WorkedCeremonies
pub mod WorkedDemo
pub mod WorkedLines
pub mod WorkedRows
