-- A store that is moved to another module, and what the other module holds before and after.
use Rattle.std.specs.Prelude.{◌≡◌, ◌≢◌, ◌≤◌, ◌<◌, ◌+◌, ℕ, ◌&&◌, bit_or, false, is_none, List, [], ◌∷◌, ◌++◌, take, length, filter, get_or, codes, Option, None, Some, IsTrue}
use Rattle.std.specs.List.{flat_map}
use Rattle.cca_roles.specs.Names.{IsLabel, IsRoleName}
use Rattle.cca_roles.specs.Points.{includes}
use Rattle.cca_roles.specs.Roles.{points_of}
use Rattle.cca_vectors.specs.Checks.{first_failing}
use Rattle.cca_vectors.specs.Vectors.{is_part_of}
use Rattle.cca_vectors.specs.declared.key_class.Class.TheVariants.{Importer}
use Rattle.cca_vectors.specs.declared.key_usage.Usage.TheVariants.{Transport}
use Rattle.record_bodies.specs.Directory.{held_count}
use Rattle.record_bodies.specs.Entries.{directory, entry}
use Rattle.record_bodies.specs.StoreStands.{entry_at}
use Rattle.key_tokens.specs.Denotes.{Denoted}
use Rattle.key_transport.specs.Tokens.{as_current}
use Rattle.verb_script.specs.Grammar.{Request}
use Rattle.verb_script.specs.declared.rows.RequestName.TheVariants.{Csnbkex}
use Rattle.cca_machine.specs.Keys.{cell_with, key_of_label}
use Rattle.cca_machine.specs.Points.{point}
use Rattle.cca_machine.specs.State.{State}
use Rattle.store_unload.specs.Moves.{clear_of, labels_of, move_checks, reason}
use Rattle.command_words.specs.declared.moves.Move.{Move}
use Rattle.cca_laws.specs.Disks.{StandFor}
use Rattle.cca_laws.specs.EachLabel.{SameEntry, entry_of_label}
use Rattle.cca_laws.specs.KeyInParts.{by_label}
use Rattle.cca_laws.specs.Uses.{IsTransportKey}

-- the label is held here, and nothing keeps it back
pub record IsMovedLabel (s : State) (w : Move) (label : List ℕ) : Type 0 where
  pub cell : ℕ
  pub held : cell_with s label ≡ Some cell
  pub free : reason s w label ≡ None

-- the moved labels that the other store doesn't hold
abbrev pub further_labels : State → Move → State → List (List ℕ)
further_labels s w t =
    filter (λ label. is_none (reason s w label) && is_none (cell_with t label)) (labels_of s)

-- CSNBKEX of a label's key under the transport key of a move
abbrev pub export_request : Move → List ℕ → Request
export_request w label = record {
  name = Csnbkex;
  values = w.role ∷ by_label label ∷ by_label w.transport ∷ [];
}

-- ---- before

-- the move is permitted here: the disks stand for the state, the words are names, and no rule refuses it
pub record IsPermittedMove (s : State) (w : Move) : Type 0 where
  pub module_here : List ℕ
  pub store_here : List ℕ
  pub stands : StandFor s module_here store_here
  pub role : IsRoleName w.role_there
  pub transport : IsLabel w.transport_there
  pub permitted : first_failing (move_checks s w) ≡ None

-- the access control points of CSNBKRC and of CSNBKIM into a record
abbrev pub receiving_points : ℕ
receiving_points = bit_or (point (codes "KRC")) (bit_or (point (codes "KIM")) (point (codes "KRW")))

-- The other module can receive the store. A label there holds the transport key, as an IMPORTER that permits import and
-- is no key part; a role there has the points; and there is room for the labels of both.
pub record Receives (s : State) (w : Move) (t : State) : Type 0 where
  pub module_there : List ℕ
  pub store_there : List ℕ
  pub stands : StandFor t module_there store_there
  pub transport : Denoted
  pub held : key_of_label t w.transport_there ≡ Some transport
  pub shared : transport.clear.key ≡ (clear_of s w.transport).key
  pub imports : IsTransportKey Importer Transport transport.clear.vector
  pub whole : is_part_of transport.clear.vector ≡ false
  pub points : ℕ
  pub role : points_of w.role_there t.roles ≡ Some points
  pub permits : IsTrue (includes points receiving_points)
  pub room : held_count (directory t.labels) + length (further_labels s w t) ≤ 1024

-- ---- after

-- the cells of these that have no label, in ascending order, counted from `at`
abbrev pub free_cells_from : ℕ → List (Option (List ℕ)) → List ℕ
free_cells_from at [] = []
free_cells_from at (None ∷ ls) = at ∷ free_cells_from (at + 1) ls
free_cells_from at (Some label ∷ ls) = free_cells_from (at + 1) ls

abbrev pub free_cells : State → List ℕ
free_cells s = free_cells_from 0 (directory s.labels)

-- The entry of a label that is moved is just this: its key with its control vector under the current master key, not
-- staged, with no unused token. All else is as it was, whole: every other label, the roles and the registers. A label that
-- was there stays in its cell. Those that weren't take the free cells, both in ascending order. No other cell has an entry.
pub record IsReceived (s : State) (w : Move) (t after : State) : Type 0 where
  pub moved : (label : List ℕ) → IsMovedLabel s w label
      → entry_of_label after label ≡ Some (entry label (Some (as_current (clear_of s label))))
  pub others : (label : List ℕ) → (IsMovedLabel s w label → ⊥) → SameEntry t after label
  pub cells : (label : List ℕ) (cell : ℕ) → cell_with t label ≡ Some cell
      → cell_with after label ≡ Some cell
  pub new_cells : (n : ℕ) → n < length (further_labels s w t)
      → cell_with after (get_or (further_labels s w t) n []) ≡ Some (get_or (free_cells t) n 0)
  pub empty : (cell : ℕ) → ((label : List ℕ) → cell_with after label ≢ Some cell)
      → entry_at after.labels cell ≡ None
  pub roles : after.roles ≡ t.roles
  pub registers : after.registers ≡ t.registers

-- the first so many lines of a file, again and again, and then the whole file
abbrev pub run_again : List ℕ → List (List ℕ) → List (List ℕ)
run_again counts lines = flat_map (λ count. take count lines) counts ++ lines
