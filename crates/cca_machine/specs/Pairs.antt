-- What a module and a store stand for together.
use Rattle.std.specs.Prelude.{◌⊎◌, ℕ, List}
use Rattle.cca_machine.specs.Broken.{IsBrokenModule, IsBrokenStore}
use Rattle.cca_machine.specs.State.{State, IsModuleOf, IsStoreOf}

-- a module and a store with these contents stand for the state
pub record ArePairOf (s : State) (c d : List ℕ) : Type 0 where
  pub «module» : IsModuleOf s c
  pub store : IsStoreOf s d

-- this is the first damaged cell of the module, or that of the store where the module has none
abbrev pub IsBrokenPair : ℕ → List ℕ → List ℕ → Type 0
IsBrokenPair cell c d = IsBrokenModule cell c ⊎ IsBrokenStore cell c d
