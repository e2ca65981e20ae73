pub mod ListedLines
pub mod SpelledReplies
pub mod WorkedPatterns
