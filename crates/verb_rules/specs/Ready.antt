-- What AHEAD needs of the registers.
use Rattle.std.specs.Prelude.{◌≡◌, ◌≢◌, Some}
use Rattle.key_cells.specs.Bench.{Bench}
use Rattle.key_tokens.specs.Denotes.{MasterKey, MasterKeys}
use Rattle.master_registers.specs.Loaded.{masters_in}
use Rattle.master_registers.specs.declared.registers.NewState.TheVariants.{Full}
use Rattle.master_registers.specs.declared.registers.Registers.{Registers}
use Rattle.verb_rules.specs.Keys.{keys_of}

-- the pattern of a full new register is neither that of the current nor that of the old one
abbrev pub IsNewApart : MasterKeys → Type 0
IsNewApart masters =
    (coming : MasterKey) → masters.coming ≡ Some coming
    → ((current : MasterKey) → masters.current ≡ Some current → coming.pattern ≢ current.pattern)
    × ((former : MasterKey) → masters.former ≡ Some former → coming.pattern ≢ former.pattern)

-- the new register is full, and its pattern is that of no other register
pub record IsReadyAhead (held : Registers) (bench : Bench) : Type 0 where
  pub full : held.new_state ≡ Full
  pub apart : IsNewApart (keys_of (masters_in held bench))
