-- The transport key of a move is the key of its label.
use Rattle.std.proofs.Common.{◌≡◌, ◌∙◌, ℕ, ◌<◌, Bool, false, List, [], ◌∷◌, ◌++◌, get_or, Option, None, Some, Result, Ok, Err, refl, sym, ap, subst, inl, inr}
use Rattle.std.specs.Prelude.{◌⊎◌, is_none, not, option_map, IfErr, IfOk}
use Rattle.cca_roles.specs.declared.roles.Role.{Role}
use Rattle.cca_vectors.specs.Checks.{Check, check, first_failing}
use Rattle.cca_vectors.proofs.Judging.{passed_over, stopped_in}
use Rattle.key_cells.specs.Bench.{Bench}
use Rattle.key_cells.specs.Lease.{loan_of}
use Rattle.key_cells.specs.declared.leases.Lease.{Lease}
use Rattle.key_records.specs.Changes.{KeepsAllButBody}
use Rattle.record_bodies.specs.Directory.{cell_of}
use Rattle.record_bodies.specs.Entries.{row_directory}
use Rattle.record_bodies.specs.Labels.{IsLabel, is_label}
use Rattle.record_bodies.specs.StoreStands.{Agrees, KeepsLabels, entry_at}
use Rattle.key_records.specs.declared.faults.RecordFault.{RecordFault}
use Rattle.key_records.specs.declared.faults.RecordFault.TheVariants.{Damaged, DiskFault}
use Rattle.line_service.specs.Devices.{TellsFault}
use Rattle.line_service.proofs.StopLemmas.{count_still}
use Rattle.record_bodies.specs.declared.rows.Row.{Row}
use Rattle.key_tokens.specs.Denotes.{Denoted}
use Rattle.key_tokens.specs.declared.key_token.Age.{Age}
use Rattle.master_registers.specs.Masters.{Masters}
use Rattle.device_cells.specs.Medium.{Medium, Told}
use Rattle.device_cells.proofs.Media.{told_from, told_joined, told_map}
use Rattle.store_move.specs.Exports.{IsTransport, exporter, transport_checks}
use Rattle.store_move.specs.Reading.{FailsAt, HoldsAsRead}
use Rattle.verb_rules.specs.KeyChecks.{use_checks}
use Rattle.verb_rules.specs.Keys.{keys_of, opened}
use Rattle.verb_rules.specs.declared.judging.Judged.{Judged}
use Rattle.verb_rules.specs.declared.rules.Rule.{Rule}
use Rattle.cca_machine.specs.Keys.{cell_with, key_of_label, or_no_key, what_at, what_in}
use Rattle.cca_machine.specs.State.{State}
use Rattle.cca_machine.specs.Verdict.{record_checks}
use Rattle.cca_machine.proofs.KnownLabels.{cell_is}
use Rattle.store_unload.specs.Judging.{IsJudged, IsStoreFault, JudgedAsRead, RefusedAsRead, checks_as_read, role_checks_by}
use Rattle.store_unload.specs.Moves.{clear_of, move_checks, role_checks}
use Rattle.command_words.specs.declared.moves.Move.{Move}

-- ---- the label's key

-- a place that was found is this one
pub found_at : (r a b : Option ℕ) → r ≡ a → r ≡ b → a ≡ b
found_at r a b first second = sym first ∙ second

-- what the record of a label holds, by its cell
module _ (s : State) (rows : List (Option Row)) (agrees : Agrees (keys_of s.registers) rows s.labels) (label : List ℕ) where
  pub key_at : (place : ℕ) → cell_of label (row_directory rows) ≡ Some place → key_of_label s label ≡ what_in (entry_at s.labels place)
  key_at place is = ap (what_at s.labels) (cell_is s rows agrees label ∙ is)

-- ---- the rules

-- rules 06 to 08, where rules 06 and 07 are as these tests say
abbrev record_by : Bool → Bool → Option Denoted → List Check
record_by no_label unknown what = check 6 no_label ∷ check 7 unknown ∷ check 8 (is_none what) ∷ []

abbrev label_by : Bool → Bool → Option Denoted → List Check
label_by no_label unknown what = record_by no_label unknown what ++ use_checks exporter (or_no_key what).clear.vector

found_by : (what : Option Denoted) → first_failing (label_by false false what) ≡ first_failing (transport_checks what)
found_by None = refl
found_by (Some key) = refl

module _ (s : State) (w : Move) (label : IsLabel w.transport) where
  abbrev label_checks : List Check
  label_checks = record_checks s w.transport ++ use_checks exporter (clear_of s w.transport).vector

  -- the label is one
  is_one : not (is_label w.transport) ≡ false
  is_one = ap not label

  unknown_refuses : cell_with s w.transport ≡ None → first_failing label_checks ≡ Some 7
  unknown_refuses unknown =
      ap (λ (t : Bool). first_failing (label_by t (is_none (cell_with s w.transport)) (key_of_label s w.transport))) is_one
      ∙ ap (λ (o : Option ℕ). first_failing (label_by false (is_none o) (key_of_label s w.transport))) unknown

  -- where it is held, the rules are those of what its record holds
  known_checks : (place : ℕ) (what : Option Denoted) → cell_with s w.transport ≡ Some place → key_of_label s w.transport ≡ what
      → first_failing label_checks ≡ first_failing (transport_checks what)
  known_checks place what held is =
      ap (λ (t : Bool). first_failing (label_by t (is_none (cell_with s w.transport)) (key_of_label s w.transport))) is_one
      ∙ ap (λ (o : Option ℕ). first_failing (label_by false (is_none o) (key_of_label s w.transport))) held
      ∙ ap (λ (o : Option Denoted). first_failing (label_by false false o)) is
      ∙ found_by what

  role_refuses : (rule : ℕ) → Some rule ≡ first_failing (role_checks s w.role) → first_failing (move_checks s w) ≡ Some rule
  role_refuses rule is = stopped_in (role_checks s w.role) label_checks rule (sym is)

  past_role : None ≡ first_failing (role_checks s w.role) → first_failing (move_checks s w) ≡ first_failing label_checks
  past_role is = passed_over (role_checks s w.role) label_checks (sym is)

  -- ---- the transport key

  clear_is : (bench : Bench) (judged : Judged) → (age : Option Age) → (what : Option Denoted)
      → option_map (λ (age : Age). let x : Denoted = record { clear = opened bench judged; age = age } in x) age ≡ what
      → first_failing (transport_checks what) ≡ None → opened bench judged ≡ (or_no_key what).clear
  clear_is bench judged None None is passes = cc passes
  clear_is bench judged None (Some key) is passes = cc is
  clear_is bench judged (Some age) None is passes = cc is
  clear_is bench judged (Some age) (Some key) is passes = ap (λ (o : Option Denoted). (or_no_key o).clear) is

  judged_as : (bench : Bench) (place : ℕ) (r : Result Judged Rule) → None ≡ first_failing (role_checks s w.role)
      → cell_with s w.transport ≡ Some place → key_of_label s w.transport ≡ what_in (entry_at s.labels place)
      → IsTransport bench (what_in (entry_at s.labels place)) r → IsJudged s w bench r
  judged_as bench place (Ok judged) role held is (passes, opens) = (
    past_role role ∙ known_checks place (what_in (entry_at s.labels place)) held is ∙ passes,
    clear_is bench judged judged.age (what_in (entry_at s.labels place)) opens passes
        ∙ ap (λ (o : Option Denoted). (or_no_key o).clear) (sym is),
  )
  judged_as bench place (Err broken) role held is fails =
      past_role role ∙ known_checks place (what_in (entry_at s.labels place)) held is ∙ fails

-- ---- by what the memory knows

module _ (s : State) (w : Move) (rows : List (Option Row)) (m : Medium) (bench : Bench) (label : IsLabel w.transport)
    (keeps : Told m (KeepsLabels (keys_of s.registers) rows s.labels)) (role : None ≡ first_failing (role_checks s w.role)) where
  pub label_unknown : cell_of w.transport (row_directory rows) ≡ None
      → Told m (λ _. first_failing (move_checks s w) ≡ Some 7)
  label_unknown none =
      told_map m (KeepsLabels (keys_of s.registers) rows s.labels) (λ _. first_failing (move_checks s w) ≡ Some 7) keeps
      (λ c here. past_role s w label role ∙ unknown_refuses s w label (cell_is s rows here.agrees w.transport ∙ none))

  pub label_judged : (place : ℕ) (r : Result (Result Judged Rule) RecordFault) → cell_of w.transport (row_directory rows) ≡ Some place
      → IfOk r (λ judged. Told m (λ _. IsTransport bench (what_in (entry_at s.labels place)) judged))
      → IfOk r (λ judged. Told m (λ _. IsJudged s w bench judged))
  label_judged place (Ok judged) found told =
      told_joined m (KeepsLabels (keys_of s.registers) rows s.labels) (λ _. IsTransport bench (what_in (entry_at s.labels place)) judged)
      (λ _. IsJudged s w bench judged) keeps told
      (λ c here is. judged_as s w label bench place judged role (cell_is s rows here.agrees w.transport ∙ found) (key_at s rows here.agrees w.transport place found) is)
  label_judged place (Err fault) found told = tt

pub role_told : (s : State) (w : Move) (m : Medium) (label : IsLabel w.transport) (rule : ℕ) → Some rule ≡ first_failing (role_checks s w.role)
    → Told m (λ _. first_failing (move_checks s w) ≡ Some rule)
role_told s w m label rule is = told_from m.content _ (λ c told. role_refuses s w label rule is)

-- ---- by what was read of its record

no_rule : (rule : ℕ) (o : Option ℕ) → Some rule ≡ o → o ≡ None → ⊥
no_rule rule o one none = cc (one, none)

no_place : (place : ℕ) (o : Option ℕ) → o ≡ None → o ≡ Some place → ⊥
no_place place o none one = cc (none, one)

module _ (m : Masters) (roles : List (Option Role)) (w : Move) (rows : List (Option Row)) (bytes : List ℕ) where
  abbrev role_rules : List Check
  role_rules = role_checks_by m roles w.role

  abbrev label_place : Option ℕ
  label_place = cell_of w.transport (row_directory rows)

  abbrev label_rules : Option ℕ → Option Denoted → List Check
  label_rules place what = check 7 (is_none place) ∷ transport_checks what

  -- the role is refused, and nothing was read
  pub role_as_read : (rule : ℕ) → Some rule ≡ first_failing role_rules → RefusedAsRead m roles w rows bytes rule
  role_as_read rule is = record {
    what = None;
    holds = λ none. absurd (no_rule rule (first_failing role_rules) is none);
    refused = stopped_in role_rules (label_rules label_place None) rule (sym is);
  }

  module _ (role : None ≡ first_failing role_rules) where
    -- the memory doesn't know the label, and nothing was read
    pub unknown_as_read : label_place ≡ None → RefusedAsRead m roles w rows bytes 7
    unknown_as_read unknown = record {
      what = None;
      holds = λ none place known. absurd (no_place place label_place unknown known);
      refused = passed_over role_rules (label_rules label_place None) (sym role)
          ∙ ap (λ (o : Option ℕ). first_failing (label_rules o None)) unknown;
    }

    module _ (bench : Bench) (place : ℕ) (known : label_place ≡ Some place) where
      -- the rules are those of what was read
      read_checks : (what : Option Denoted) → first_failing (checks_as_read m roles w rows what) ≡ first_failing (transport_checks what)
      read_checks what =
          passed_over role_rules (label_rules label_place what) (sym role)
          ∙ ap (λ (o : Option ℕ). first_failing (label_rules o what)) known

      here : (what : Option Denoted) → HoldsAsRead (keys_of m) (get_or rows place None) bytes what → (other : ℕ) → label_place ≡ Some other
          → HoldsAsRead (keys_of m) (get_or rows other None) bytes what
      here what holds other is =
          let same : place ≡ other = cc (sym known ∙ is) in
          subst (λ (k : ℕ). HoldsAsRead (keys_of m) (get_or rows k None) bytes what) same holds

      record_as_read : (what : Option Denoted) (r : Result Judged Rule) → HoldsAsRead (keys_of m) (get_or rows place None) bytes what
          → IsTransport bench what r → JudgedAsRead m roles w rows bench bytes r
      record_as_read None (Ok judged) holds (passes, opens) = absurd (cc passes)
      record_as_read (Some key) (Ok judged) holds (passes, opens) = (
        key,
        opens,
        record { place = place; known = known; holds = holds; permitted = read_checks (Some key) ∙ passes },
      )
      record_as_read what (Err broken) holds fails = record {
        what = what;
        holds = λ none other is. here what holds other is;
        refused = read_checks what ∙ fails;
      }

      pub label_as_read : (r : Result (Result Judged Rule) RecordFault)
          → IfOk r (λ judged. (what : Option Denoted) × HoldsAsRead (keys_of m) (get_or rows place None) bytes what × IsTransport bench what judged)
          → IfOk r (JudgedAsRead m roles w rows bench bytes)
      label_as_read (Ok judged) own = record_as_read own.0 judged own.1 own.2
      label_as_read (Err fault) own = tt

-- ---- what is left of the store and of the lease

-- where a rule is told, no cell is
pub undamaged : {T : Type 0} (told : T) (m : Medium) (cell : ℕ) → ◌≡◌ {A = Result T RecordFault} (Ok told) (Err (Damaged cell)) → Told m (λ _. ⊥)
undamaged told m cell is = absurd (cc is)

-- and the store, which wasn't called, didn't fail
pub unfailed : {T : Type 0} (told : T) (count : ℕ) → TellsFault count count (◌≡◌ {A = Result T RecordFault} (Ok told) (Err DiskFault))
unfailed told count = count_still count _ (λ is. cc is)

pub kept_whole : (l : Lease) → KeepsAllButBody l l
kept_whole l = refl

-- the bench is lent as before
pub judged_loan : (old new : Lease) → KeepsAllButBody old new → loan_of new ≡ loan_of old
judged_loan old new rest = ap loan_of rest

module _ {T : Type 0} (r : Result T RecordFault) (place before now : ℕ) (fails : FailsAt place before now r) where
  pub read_left : TellsFault before now (r ≡ Err DiskFault)
  read_left = record { later = fails.later; fault = fails.failed; quiet = fails.quiet }

  pub read_faults : place < 1024 → IfErr r IsStoreFault
  read_faults within = by_case r fails.faults
    where
      by_kind : (fault : RecordFault) → (fault ≡ DiskFault) ⊎ (fault ≡ Damaged place) → IsStoreFault fault
      by_kind fault (inl is) = inl is
      by_kind fault (inr is) = inr (place, within, is)

      by_case : (q : Result T RecordFault) → IfErr q (λ fault. (fault ≡ DiskFault) ⊎ (fault ≡ Damaged place)) → IfErr q IsStoreFault
      by_case (Ok told) kind = tt
      by_case (Err fault) kind = by_kind fault kind
