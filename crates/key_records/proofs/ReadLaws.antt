-- Reading a record that is held.
use Rattle.std.proofs.Common.{◌≡◌, ◌<◌, inl, inr, set, ℕ, zero, suc, Bool, true, false, List, [], ◌∷◌, get_or, map, Option, None, Some, refl, sym, ap, subst, ◌∙◌, ◌+◌, ◌*◌, ◌≤◌, arith}
use Rattle.std.specs.Prelude.{is_some, is_err, option_map, slice_index, Result, Ok, Err}
use Rattle.cca_roles.proofs.DirectoryLaws.{none_some}
use Rattle.device_cells.specs.Cells.{body, cell_size}
use Rattle.device_cells.specs.Medium.{Medium, Told}
use Rattle.device_cells.proofs.Media.{told_map}
use Rattle.device_cells.specs.Faults.{HasCause}
use Rattle.key_tokens.specs.Denotes.{MasterKeys, Denoted}
use Rattle.master_registers.specs.declared.patterns.Pattern.{Pattern}
use Rattle.key_records.specs.Changes.{ChangesKeyAndBody, HasRecordCause, ReadsToken}
use Rattle.record_bodies.specs.Entries.{Entry, entry_label, row_directory, row_label, remembered, pattern_for, pattern_ahead}
use Rattle.record_bodies.specs.Labels.{IsLabel}
use Rattle.record_bodies.specs.Directory.{label_at}
use Rattle.record_bodies.specs.Opening.{IsRefused, Opens}
use Rattle.record_bodies.proofs.OpeningLaws.{label_remembered}
use Rattle.key_cells.specs.Bench.{Bench}
use Rattle.key_cells.specs.Lease.{bench_of, holding}
use Rattle.key_cells.specs.declared.leases.Lease.{Lease}
use Rattle.master_registers.specs.Loaded.{Loaded}
use Rattle.master_registers.specs.Masters.{Masters}
use Rattle.master_registers.specs.declared.registers.Registers.{Registers}
use Rattle.record_bodies.specs.RecordBody.{entry_in, token_in, second_in, kept, held_token, ReadsEntry, ReadsWhat, ReadsRow, StandsAs}
use Rattle.record_bodies.specs.StoreStands.{KeepsLabels, HoldsRows, entry_at}
use Rattle.key_records.specs.declared.faults.RecordFault.{RecordFault}
use Rattle.key_records.specs.declared.faults.RecordFault.TheVariants.{Damaged, DiskFault}
use Rattle.record_bodies.specs.declared.rows.Row.{Row}
use Rattle.record_bodies.proofs.KeptLaws.{kept_first, row_reads, stands_as}
use Rattle.record_bodies.proofs.PieceLaws.{key_body_is}
use Rattle.key_cells.proofs.AnswerLemmas.{no_err}

pub row_of_entry : (masters : MasterKeys) (s : List (Option Entry)) (n : ℕ) → get_or (map (remembered masters) s) n None ≡ remembered masters (entry_at s n)
row_of_entry masters [] n = refl
row_of_entry masters (e ∷ s) zero = refl
row_of_entry masters (e ∷ s) (suc n) = row_of_entry masters s n

-- the entry whose row this is
pub record IsRowOf (masters : MasterKeys) (o : Option Entry) (row : Row) : Type 0 where
  pub entry : Entry
  pub is : o ≡ Some entry
  pub label : row.label ≡ entry.label
  pub pattern : row.pattern ≡ option_map (pattern_for masters) entry.what
  pub ahead : row.ahead ≡ pattern_ahead masters entry.ahead

row_entry : (masters : MasterKeys) (o : Option Entry) (row : Row) → remembered masters o ≡ Some row → IsRowOf masters o row
row_entry masters None row is = absurd (none_some row is)
row_entry masters (Some e) row is = record { entry = e; is = refl; label = cc is; pattern = cc is; ahead = cc is }

pub some_mapped : {A B : Type 0} (f : A → B) (o : Option A) → is_some (option_map f o) ≡ is_some o
some_mapped f None = refl
some_mapped f (Some x) = refl

-- ---- the token of a label

module _ (masters : MasterKeys) (rows : List (Option Row)) (s : List (Option Entry)) (image : List ℕ) (place : ℕ) (row : Row) (keeps : KeepsLabels masters rows s image)
    (held : get_or rows place None ≡ Some row) (within : place < 1024) where
  the_entry : IsRowOf masters (entry_at s place) row
  the_entry = row_entry masters (entry_at s place) row (sym (row_of_entry masters s place) ∙ ap (λ r. get_or r place None) (sym keeps.agrees) ∙ held)

  reads_entry : ReadsEntry masters (body image place) (Some the_entry.entry)
  reads_entry = subst (ReadsEntry masters (body image place)) the_entry.is (keeps.stands.reads place within)

  abbrev token_held : List ℕ → List ℕ
  token_held bytes = held_token (is_some row.ahead) (slice_index bytes 0) (token_in bytes) (second_in bytes)

  pub read_token : ReadsToken masters (entry_at s place) (is_some row.pattern) (token_held (body image place))
  read_token =
      subst (λ (o : Option Entry). ReadsToken masters o (is_some row.pattern) (token_held (body image place))) (sym the_entry.is) (
        ap (λ p. is_some p) the_entry.pattern ∙ some_mapped (pattern_for masters) the_entry.entry.what,
        λ key is. of_key (body image place) the_entry.entry.label key the_entry.entry.ahead the_entry.entry.unused the_entry.ahead reads_entry.0
            (subst (λ (w : Option Denoted). ReadsWhat masters (body image place) the_entry.entry.label w the_entry.entry.ahead the_entry.entry.unused) is reads_entry.1),
      )
    where
      of_key : (bytes label : List ℕ) (key : Denoted) (ahead : Bool) (unused : Option (List ℕ)) → row.ahead ≡ pattern_ahead masters ahead → IsLabel label → ReadsWhat masters bytes label (Some key) ahead unused
          → kept masters (token_held bytes) ≡ Some key
      of_key bytes label key ahead unused is_ahead is_label reads =
          let stands = subst (λ (p : Option Pattern). StandsAs bytes label reads.token p) (sym is_ahead) (stands_as masters bytes label reads.token key ahead unused reads.body) in
          ap (kept masters) (key_body_is bytes label reads.token row.ahead is_label (kept_first masters reads.token key reads.are reads.is_kept) stands).held ∙ reads.is_kept

-- the memory knows the labels that a store stands for
pub keeps_holds : (masters : MasterKeys) (rows : List (Option Row)) (s : List (Option Entry)) (image : List ℕ) → KeepsLabels masters rows s image → HoldsRows rows image
keeps_holds masters rows s image keeps = record {
  reads = λ n below. subst (ReadsRow (body image n)) (sym (row_of_entry masters s n) ∙ ap (λ r. get_or r n None) (sym keeps.agrees))
      (row_reads masters (body image n) (entry_at s n) (keeps.stands.reads n below));
}

-- a cell lies within a store of 1,024 cells
pub cell_fits : (size n k : ℕ) → size ≡ 1572864 → n < 1024 → k ≡ n → cell_size * (k + 1) ≤ size
cell_fits size n k is within same = omega arith

-- ---- opening one cell

pub opened_cause : {T E : Type 0} (before now : ℕ) (r : Result T E) → HasCause before now r → is_err r ≡ false → (result : Result (Unit {0}) RecordFault) → (result ≡ Err DiskFault → ⊥) → HasRecordCause before now result
opened_cause before now (Ok x) cause read result other = record { later = cause.later; failed = λ is. absurd (other is); quiet = λ _. cause.quiet }
opened_cause before now (Err e) cause read result other = let wrong : true ≡ false = read in absurd (cc)

pub unopened_cause : {T E : Type 0} (before now : ℕ) (r : Result T E) → HasCause before now r → is_err r ≡ true → HasRecordCause before now (Err DiskFault)
unopened_cause before now (Ok x) cause unread = let wrong : false ≡ true = unread in absurd (cc)
unopened_cause before now (Err e) cause unread = record { later = cause.later; failed = λ _. cause.failed; quiet = λ other. absurd (other refl) }

-- a cell that couldn't be read isn't a damaged one
pub not_damaged : {T P : Type 0} (n : ℕ) → ◌≡◌ {A = Result T RecordFault} (Err DiskFault) (Err (Damaged n)) → P
not_damaged n is = absurd (cc is)

pub damaged_one : {T : Type 0} (a b : ℕ) → ◌≡◌ {A = Result T RecordFault} (Err (Damaged a)) (Err (Damaged b)) → a ≡ b
damaged_one a b is = cc is

-- no fault was counted before
pub cause_from : (old before now : ℕ) (result : Result (Unit {0}) RecordFault) → before ≡ old → HasRecordCause before now result
    → HasRecordCause old now result
cause_from old before now result same cause = subst (λ (n : ℕ). HasRecordCause n now result) same cause

-- nor now
pub cause_none : (before now : ℕ) → now ≡ before → HasRecordCause before now (Ok _)
cause_none before now same = record { later = omega (arith, same); failed = λ is. no_err is; quiet = λ _. same }

-- of the lease no more has changed in both steps
pub changed_then : (old between new : Lease) → ChangesKeyAndBody old between → ChangesKeyAndBody between new → ChangesKeyAndBody old new
changed_then old between new first then =
    then ∙ ap (λ l. holding l (record (bench_of l) { key = (bench_of new).key; schedules = (bench_of new).schedules; body = (bench_of new).body })) first

pub loaded_with : (m : Masters) (held : Registers) (bench : Bench) (bytes : List ℕ) → Loaded m held bench → Loaded m held (record bench { body = bytes })
loaded_with m held bench bytes loaded = record {
  valid = loaded.valid;
  placed = record { coming = loaded.placed.coming; current = loaded.placed.current; former = loaded.placed.former };
  told = loaded.told;
}

module _ (m : Medium) (masters : MasterKeys) (bytes : List ℕ) (cell : ℕ) (rows : List (Option Row)) (here : Told m (λ image. bytes ≡ body image cell)) where
  pub opens_read : (row : Option Row) (now : List (Option Row)) → ReadsEntry masters bytes (entry_in masters bytes) → row ≡ remembered masters (entry_in masters bytes) → now ≡ set rows cell row
      → Told m (λ image. Opens masters (body image cell) cell rows now)
  opens_read row now reads is put =
      told_map m (λ image. bytes ≡ body image cell) (λ image. Opens masters (body image cell) cell rows now) here
      (λ image same. subst (λ (b : List ℕ). Opens masters b cell rows now) same (record { reads = reads; rows = put ∙ ap (set rows cell) is }))

  refused_as : IsRefused masters bytes rows → Told m (λ image. IsRefused masters (body image cell) rows)
  refused_as refused =
      told_map m (λ image. bytes ≡ body image cell) (λ image. IsRefused masters (body image cell) rows) here
      (λ image same. subst (λ (b : List ℕ). IsRefused masters b rows) same refused)

  pub refused_unread : (n : ℕ) → cell ≡ n → ((e : Option Entry) → ReadsEntry masters bytes e → ⊥) → (n ≡ cell) × Told m (λ image. IsRefused masters (body image cell) rows)
  refused_unread n same none = (sym same, refused_as (inl none))

  pub refused_held : (n : ℕ) (row : Option Row) → cell ≡ n → ReadsEntry masters bytes (entry_in masters bytes) → row ≡ remembered masters (entry_in masters bytes)
      → (label : List ℕ) × (row_label row ≡ Some label) × (k : ℕ) × (label_at (row_directory rows) k ≡ Some label)
      → (n ≡ cell) × Told m (λ image. IsRefused masters (body image cell) rows)
  refused_held n row same reads is held =
      (sym same, refused_as (inr (of_entry (entry_in masters bytes) reads (sym (label_remembered masters (entry_in masters bytes)) ∙ ap row_label (sym is) ∙ held.1))))
    where
      of_entry : (o : Option Entry) → ReadsEntry masters bytes o → entry_label o ≡ Some held.0 → (e : Entry) × ReadsEntry masters bytes (Some e) × (k : ℕ) × (label_at (row_directory rows) k ≡ Some e.label)
      of_entry None reads label = absurd (none_some held.0 label)
      of_entry (Some e) reads label = (e, reads, held.2, held.3 ∙ sym label)
