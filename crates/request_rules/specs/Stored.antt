-- What is found of a label, and of the key in its record.
use Rattle.std.specs.Prelude.{◌≡◌, ◌<◌, ◌⊎◌, ℕ, List, [], ◌∷◌, ◌++◌, get_or, is_none, Bool, false, Option, Some, None, Result, Ok, Err, IfErr, IsOk, IsTrue, MatchResult, ⊤}
use Rattle.cca_vectors.specs.Checks.{Check, check, first_failing}
use Rattle.key_cells.specs.Bench.{Bench}
use Rattle.key_cells.specs.Lease.{bench_of}
use Rattle.key_cells.specs.declared.leases.Lease.{Lease}
use Rattle.key_records.specs.Changes.{KeepsAllButBody}
use Rattle.record_bodies.specs.Directory.{cell_of, label_at}
use Rattle.record_bodies.specs.Entries.{row_directory}
use Rattle.record_bodies.specs.Labels.{IsLabel}
use Rattle.key_records.specs.declared.faults.RecordFault.{RecordFault}
use Rattle.key_records.specs.declared.faults.RecordFault.TheVariants as record_fault
use Rattle.record_bodies.specs.declared.rows.Row.{Row}
use Rattle.key_tokens.specs.Denotes.{Denoted}
use Rattle.master_registers.specs.Masters.{Masters}
use Rattle.line_service.specs.Devices.{DiskLeft}
use Rattle.line_service.specs.declared.stops.Device.TheVariants.{Store}
use Rattle.line_service.specs.declared.stops.Stop.{Stop}
use Rattle.line_service.specs.declared.stops.Stop.TheVariants.{StoreFault, Damaged}
use Rattle.master_registers.specs.declared.registers.Registers.{Registers}
use Rattle.device_cells.specs.Medium.{Keeps, Medium}
use Rattle.store_move.specs.Reading.{HoldsAsRead}
use Rattle.store_move.specs.Stored.{IsStored}
use Rattle.verb_rules.specs.KeyChecks.{use_checks}
use Rattle.verb_rules.specs.Keys.{keys_of}
use Rattle.verb_rules.specs.Rules.{rule_number}
use Rattle.verb_rules.specs.declared.judging.Judged.{Judged}
use Rattle.verb_rules.specs.declared.needs.Need.{Need}
use Rattle.verb_rules.specs.declared.rules.Rule.{Rule}
use Rattle.cca_machine.specs.Keys.{key_of_label, or_no_key}
use Rattle.cca_machine.specs.Operands.{Operand, Operands, listed}
use Rattle.cca_machine.specs.State.{State}
use Rattle.cca_machine.specs.Verdict.{label_check, record_checks}
use Rattle.cca_machine.specs.declared.asking.Ask.{Ask}
use Rattle.request_rules.specs.ByRecords.{IfKeyOfLabel, IsHeldIn}
use Rattle.cca_machine.specs.Granted.{HasStoredKey, answered}
use Rattle.request_rules.specs.Judging.{IsStoreStop}
use Rattle.request_rules.specs.Standing.{AtStore}
use Rattle.cca_machine.specs.declared.granted.Grant.{Grant}
use Rattle.request_rules.specs.declared.judging.Verdict.{Verdict}
use Rattle.request_rules.specs.declared.judging.Verdict.TheVariants as verdict
use Rattle.cca_machine.specs.declared.refusals.Refusal.{Refusal}

-- rules 06 and 07 of a label, by what the memory knows
abbrev pub find_checks : List (Option Row) → List ℕ → List Check
find_checks rows label = label_check label ∷ check 7 (is_none (cell_of label (row_directory rows))) ∷ []

-- the place of a label that is held
pub record IsFound (rows : List (Option Row)) (label : List ℕ) (place : ℕ) : Type 0 where
  pub passes : first_failing (find_checks rows label) ≡ None
  pub is : cell_of label (row_directory rows) ≡ Some place
  pub held : label_at (row_directory rows) place ≡ Some label
  pub label_is : IsLabel label
  pub within : place < 1024

-- the place, or the rule that the label breaks
abbrev pub Finds : List (Option Row) → List ℕ → Result ℕ Rule → Type 0
Finds rows label result =
    MatchResult result (IsFound rows label) (λ rule. first_failing (find_checks rows label) ≡ Some (rule_number rule))

-- the rules of a label whose key is asked for
abbrev pub label_key_checks : State → Need → List ℕ → List Check
label_key_checks s need label = record_checks s label ++ use_checks need (or_no_key (key_of_label s label)).clear.vector

-- the first of them that is broken, or the key
abbrev pub IsLabelAsked : State → Bench → Need → List ℕ → Result Grant Rule → Type 0
IsLabelAsked s bench need label (Err rule) = first_failing (label_key_checks s need label) ≡ Some (rule_number rule)
IsLabelAsked s bench need label (Ok grant) =
    (first_failing (label_key_checks s need label) ≡ None) × HasStoredKey s.registers bench (key_of_label s label) grant

-- What is answered by the body that was read of a record, whatever the store tells of its bytes: rule 08 where the memory
-- knows the record as null, and else what the key of the token in it comes to. Of a token that stands for no key nothing is
-- answered.
pub record IsAnsweredAsRead (m : Masters) (bench : Bench) (need : Need) (row : Option Row) (bytes : List ℕ)
    (given : Result Grant Rule) : Type 0 where
  pub what : Option Denoted
  pub holds : HoldsAsRead (keys_of m) row bytes what
  pub judged : Result Judged Rule
  pub stored : IsStored bench need what judged
  pub is : given ≡ answered judged

-- of a label that the memory holds: there is such a body
abbrev pub IsLabelAsRead : Masters → Bench → List (Option Row) → Result Grant Rule → Need → List ℕ → Type 0
IsLabelAsRead m bench rows given need label = (cell : ℕ) → IsHeldIn rows label cell
    → (bytes : List ℕ) × IsAnsweredAsRead m bench need (get_or rows cell None) bytes given

-- the same of an operand that asks for the key of such a label
abbrev pub IsAskedAsRead : Masters → Bench → List (Option Row) → List ℕ → Ask → Result Grant Rule → Type 0
IsAskedAsRead m bench rows text ask given = IfKeyOfLabel (IsLabelAsRead m bench rows given) text ask

-- an operand is refused so as read, and those before it are granted as read
abbrev pub IsRefusedAsRead : Masters → Bench → List (Option Row) → List Operand → Refusal → Type 0
IsRefusedAsRead m bench rows [] _ = ⊥
IsRefusedAsRead m bench rows (o ∷ os) r =
    ((r.operand.now ≡ o.name) × IsAskedAsRead m bench rows o.text o.ask (Err r.rule))
    ⊎ ((grant : Grant) × IsAskedAsRead m bench rows o.text o.ask (Ok grant)
    × IsRefusedAsRead m bench rows os r)

-- the same of all operands
abbrev pub AreAskedAsRead : Masters → Bench → List (Option Row) → Operands → Verdict → Type 0
AreAskedAsRead m bench rows os (verdict.Refused r) = IsRefusedAsRead m bench rows (listed os) r
AreAskedAsRead m bench rows os (verdict.Granted g) =
    IsAskedAsRead m bench rows os.first.text os.first.ask (Ok g.first)
    × IsAskedAsRead m bench rows os.second.text os.second.ask (Ok g.second)
    × IsAskedAsRead m bench rows os.third.text os.third.ask (Ok g.third)

-- reading a record fails by these alone
abbrev pub IsReadFault : RecordFault → Type 0
IsReadFault record_fault.DiskFault = ⊤
IsReadFault (record_fault.Damaged cell) = ⊤
IsReadFault record_fault.Full = ⊥
IsReadFault record_fault.Exists = ⊥

abbrev pub read_stop : RecordFault → Stop
read_stop record_fault.DiskFault = StoreFault
read_stop (record_fault.Damaged cell) = Damaged Store cell
read_stop record_fault.Full = StoreFault
read_stop record_fault.Exists = StoreFault

-- What a call that judges leaves of the store and of the bench: it reads at most, and only where a label is named.
pub record ReadsStore {D T : Type 0} (medium : D → Medium) (faults : D → ℕ) (labelled : Bool)
    (held : Registers) (rows : List (Option Row)) (lease later : Lease) (old new : D)
    (result : Result T Stop) : Type 0 where
  pub keeps : Keeps (medium old) (medium new)
  pub disk : DiskLeft (medium old) (medium new) (faults old) (faults new)
      (IsOk result) (result ≡ Err StoreFault)
  pub spared : labelled ≡ false → new ≡ old
  pub named : result ≡ Err StoreFault → IsTrue labelled
  pub stops : IfErr result IsStoreStop
  -- of a store that stands for a state no cell is damaged
  pub sound : (s : State) → AtStore s held (bench_of lease) rows (medium old)
      → IfErr result (λ stop. stop ≡ StoreFault)
  -- the body of a cell may have been read into the bench
  pub rest : KeepsAllButBody lease later
