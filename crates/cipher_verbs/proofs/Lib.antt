pub mod PaddingLemmas
