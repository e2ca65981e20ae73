-- Runs of REENCIPHER that are stopped, and run again.
use Rattle.std.specs.Prelude.{ℕ, List, [], ◌∷◌, codes}
use Rattle.record_bodies.specs.Further.{reruns}
use Rattle.record_bodies.specs.declared.actions.StoreAction.{StoreAction}
use Rattle.record_bodies.specs.declared.actions.StoreAction.TheVariants.{Renew, Ahead, Drop}
use Rattle.verb_script.specs.Grammar.{Request}
use Rattle.verb_script.specs.declared.rows.RequestName.{RequestName}
use Rattle.verb_script.specs.declared.rows.RequestName.TheVariants.{Reencipher, ReencipherAhead, ReencipherDrop}
use Rattle.cca_machine.specs.State.{State}

-- the row of REENCIPHER with an action
abbrev pub row_with : StoreAction → RequestName
row_with Renew = Reencipher
row_with Ahead = ReencipherAhead
row_with Drop = ReencipherDrop

abbrev pub action_values : StoreAction → List (List ℕ)
action_values Renew = []
action_values Ahead = codes "AHEAD" ∷ []
action_values Drop = codes "DROP" ∷ []

-- REENCIPHER with an action, for a role
abbrev pub reencipher_for : StoreAction → List ℕ → Request
reencipher_for a role = record { name = row_with a; values = role ∷ action_values a }

-- the state after runs that were stopped at these cells, one after another
abbrev pub stopped : StoreAction → State → List ℕ → State
stopped a s stops = record s { labels = reruns a s.labels stops }
