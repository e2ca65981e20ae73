pub mod Codes
pub use Rattle.des_blocks.specs.Modes
pub use Rattle.des_blocks.specs.Texts
pub use Rattle.key_cells.specs.Bench
pub use Rattle.key_cells.specs.Lease
pub use Rattle.multi_encipher.specs.Bundles
pub use Rattle.verb_rules.specs.Keys
pub use Rattle.verb_rules.specs.LengthChecks
