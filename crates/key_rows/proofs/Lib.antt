pub mod ComputedVectors
