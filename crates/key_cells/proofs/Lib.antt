pub mod AnswerLemmas
pub mod ByteLemmas
pub mod PieceLemmas
