pub mod Bundles
pub mod Seals
pub use Rattle.key_cells.specs.Bytes
pub use Rattle.cca_vectors.specs.Vectors
pub use Rattle.des_blocks.specs.TripleDes
pub use Rattle.key_cells.specs.Bench
pub use Rattle.key_cells.specs.Lease
