-- What a line writes of the module and the store.
use Rattle.std.specs.Prelude.{◌≡◌, Bool, true, false, List, ℕ}
use Rattle.verb_script.specs.declared.rows.RequestName.{RequestName}
use Rattle.verb_script.specs.declared.rows.RequestName.TheVariants.{CsnbmkpPart, CsnbmkpClear, CsnbmkpSet, CsuaaciDefine, CsuaaciRemove}
use Rattle.cca_machine.specs.Coprocessor.{ModuleMay, StoreMay}
use Rattle.cca_machine.specs.State.{State}

-- each disk is byte for byte as it was before the line
pub record WritesNothing (s : State) (line : List ℕ) : Type 0 where
  pub of_module : (old new : List ℕ) → ModuleMay s line old new → new ≡ old
  pub of_store : (old new : List ℕ) → StoreMay s line old new → new ≡ old

-- the steps of a key ceremony, and the changes of roles
abbrev pub changes_module : RequestName → Bool
changes_module CsnbmkpPart = true
changes_module CsnbmkpClear = true
changes_module CsnbmkpSet = true
changes_module CsuaaciDefine = true
changes_module CsuaaciRemove = true
changes_module _ = false
