-- The contents of a module and of a store.
use Rattle.std.specs.Prelude.{ℕ, List}
use Rattle.cca_machine.specs.State.{State, IsModuleOf, IsStoreOf}

-- the contents of both stand for the state
pub record StandFor (s : State) (in_module in_store : List ℕ) : Type 0 where
  pub module_ : IsModuleOf s in_module
  pub store : IsStoreOf s in_store
