pub mod WorkedLabels
