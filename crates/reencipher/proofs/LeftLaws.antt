-- What a run leaves of any store, from one cell to the next.
use Rattle.std.proofs.Common.{◌≡◌, ◌≤◌, ◌<◌, ℕ, Bool, true, List, Option, None, Some, Result, Ok, Err, inl, inr, ⊎_elim, refl, ◌∙◌, sym, subst, ap, arith}
use Rattle.std.specs.Prelude.{◌⊎◌, IfSome, IsSome}
use Rattle.key_cells.specs.declared.leases.Lease.{Lease}
use Rattle.device_cells.specs.Cells.{IsReplacing}
use Rattle.device_cells.specs.Faults.{Rose}
use Rattle.device_cells.specs.Medium.{Medium, Told, Keeps}
use Rattle.device_cells.proofs.Media.{told_from, told_before, told_still, settled_kept}
use Rattle.key_records.specs.Changes.{HasReadCause, ChangesRecord, ChangesKeyAndBody, KeepsAllButBody}
use Rattle.record_bodies.specs.Directory.{label_at}
use Rattle.record_bodies.specs.Entries.{row_directory}
use Rattle.record_bodies.specs.StoreStands.{HasStore, HoldsRows}
use Rattle.key_records.specs.declared.faults.RecordFault.{RecordFault}
use Rattle.key_records.specs.declared.faults.RecordFault.TheVariants.{Damaged, DiskFault}
use Rattle.record_bodies.specs.declared.rows.Row.{Row}
use Rattle.reencipher.specs.Runs.{IsLabelCell, IsTurnOf, LeavesAnyStore}
use Rattle.reencipher.proofs.RunLaws.{changes_none, changes_more, changes_body}

abbrev failed : (T : Type 0) → RecordFault → Result T RecordFault
failed T e = Err e

rose_later : (before mid now : ℕ) → before ≤ mid → Rose mid now → Rose before now
rose_later before mid now later rose = ⊎_elim (λ below. inl (omega (arith, later, below))) inr rose

-- what is told of no disk later is told of none before, where a disk that tells its bytes still tells them
told_of_none : (old mid : Medium) → (IsSome old.content → IsSome mid.content) → Told mid (λ _. ⊥) → Told old (λ _. ⊥)
told_of_none old mid still none = told_from old.content (λ _. ⊥) (λ c is. never mid.content (still (subst IsSome (sym is) refl)) none)
  where
    never : (content : Option (List ℕ)) → IsSome content → IfSome content (λ _. ⊥) → ⊥
    never None some none = cc some
    never (Some c) some none = none

module _ {D : Type 0} (medium : D → Medium) (faults : D → ℕ) where
  pub left_untouched : {T : Type 0} (Looked : ℕ → Type 0) (lease : Lease) (rows : List (Option Row)) (store : D) (value : T) → HasStore rows (medium store)
      → LeavesAnyStore medium faults Looked lease lease rows rows store store (Ok value)
  left_untouched Looked lease rows store value has = record {
    size = has.size;
    settled = has.settled;
    holds = has.holds;
    still = λ some. some;
    told = λ some. some;
    directory = refl;
    damaged = λ k is. absurd (cc is);
    fault = tt;
    cause = record { later = omega arith; failed = λ is. absurd (cc is); quiet = λ _. refl };
    rest = changes_none lease;
  }

  -- the record of one cell was read
  module _ (lease later : Lease) (rows : List (Option Row)) (old mid : D) (cell : ℕ) (has : HasStore rows (medium old)) (keeps : Keeps (medium old) (medium mid)) where
    pub left_read : (found done : Bool) → HasReadCause (faults old) (faults mid) (Ok found) → ChangesKeyAndBody lease later
        → LeavesAnyStore medium faults (IsTurnOf rows cell) lease later rows rows old mid (Ok done)
    left_read found done cause rest = record {
      size = keeps.moments.size ∙ has.size;
      settled = settled_kept (medium old) (medium mid) keeps has.settled;
      holds = told_still (medium old) (medium mid) (HoldsRows rows) keeps has.holds;
      still = subst IsSome (sym keeps.content);
      told = subst IsSome keeps.content;
      directory = refl;
      damaged = λ k is. absurd (cc is);
      fault = tt;
      cause = record { later = cause.later; failed = λ is. absurd (cc is); quiet = λ _. cause.quiet (λ is. cc is) };
      rest = rest;
    }

    pub left_unread : (e : RecordFault) (place : ℕ) → place ≡ cell → IsSome (label_at (row_directory rows) place) → ((n : ℕ) → failed Bool e ≡ Err (Damaged n) → (n ≡ place) × Told (medium old) (λ _. ⊥))
        → (e ≡ DiskFault) ⊎ (e ≡ Damaged place) → HasReadCause (faults old) (faults mid) (Err e) → KeepsAllButBody lease later
        → LeavesAnyStore medium faults (IsTurnOf rows cell) lease later rows rows old mid (failed Bool e)
    left_unread e place at held damaged fault cause rest = record {
      size = keeps.moments.size ∙ has.size;
      settled = tt;
      holds = tt;
      still = subst IsSome (sym keeps.content);
      told = subst IsSome keeps.content;
      directory = refl;
      damaged = λ n is. (damaged n (cc is)).1;
      fault = ⊎_elim inl (λ is. inr (place, record { is = at; held = subst (λ (n : ℕ). IsSome (label_at (row_directory rows) n)) at held }, is)) fault;
      cause = record { later = cause.later; failed = λ is. cause.failed (cc is); quiet = λ other. cause.quiet (λ is. other (cc is)) };
      rest = changes_body lease later rest;
    }

    -- and written
    module _ (last : Lease) (now : List (Option Row)) (new : D) (place : ℕ) (bytes : List ℕ) (row : Option Row) (found : Bool) (cause : HasReadCause (faults old) (faults mid) (Ok found)) (between : ChangesKeyAndBody lease later) where
      abbrev Puts : Result (Unit {0}) RecordFault → Type 0
      Puts result = ChangesRecord medium faults place bytes row rows now later last mid new result

      pub left_put : Puts (Ok tt) → row_directory now ≡ row_directory rows
          → LeavesAnyStore medium faults (IsTurnOf rows cell) lease last rows now old new (Ok true)
      left_put puts directory = record {
        size = puts.cell.moments.size ∙ keeps.moments.size ∙ has.size;
        settled = puts.cell.settled;
        holds = puts.holds;
        still = λ some. puts.cell.replacing.still (subst IsSome (sym keeps.content) some);
        told = λ some. subst IsSome keeps.content (told_before (IsReplacing place bytes) (medium mid) (medium new) puts.cell.replacing some);
        directory = directory;
        damaged = λ k is. absurd (cc is);
        fault = tt;
        cause = record {
          later = omega (arith, cause.later, puts.cause.later);
          failed = λ is. absurd (cc is);
          quiet = λ _. puts.cause.quiet (λ is. cc is) ∙ cause.quiet (λ is. cc is);
        };
        rest = changes_more lease later last between (changes_body later last puts.rest);
      }

      pub left_unput : (e : RecordFault) → Puts (Err e) → e ≡ DiskFault
          → LeavesAnyStore medium faults (IsTurnOf rows cell) lease last rows now old new (failed Bool e)
      left_unput e puts is_fault = record {
        size = puts.cell.moments.size ∙ keeps.moments.size ∙ has.size;
        settled = tt;
        holds = tt;
        still = λ some. puts.cell.replacing.still (subst IsSome (sym keeps.content) some);
        told = λ some. subst IsSome keeps.content (told_before (IsReplacing place bytes) (medium mid) (medium new) puts.cell.replacing some);
        directory = ap row_directory puts.memory.kept;
        damaged = λ k is. absurd (cc (is, is_fault));
        fault = inl is_fault;
        cause = record {
          later = omega (arith, cause.later, puts.cause.later);
          failed = λ _. rose_later (faults old) (faults mid) (faults new) cause.later (puts.cause.failed (ap Err is_fault));
          quiet = λ other. absurd (other (ap Err is_fault));
        };
        rest = changes_more lease later last between (changes_body later last puts.rest);
      }

  -- the cells so far, and the turn of one more
  module _ (first between last : Lease) (before rows now : List (Option Row)) (old mid new : D) (cell n : ℕ) (within : cell < 1024) where
    abbrev So_far : Type 0
    So_far = LeavesAnyStore medium faults (IsLabelCell before) first between before rows old mid (Ok n)

    pub left_on : (done : Bool) (m : ℕ) → So_far → LeavesAnyStore medium faults (IsTurnOf rows cell) between last rows now mid new (Ok done)
        → LeavesAnyStore medium faults (IsLabelCell before) first last before now old new (Ok m)
    left_on done m so_far turn = record {
      size = turn.size;
      settled = turn.settled;
      holds = turn.holds;
      still = λ some. turn.still (so_far.still some);
      told = λ some. so_far.told (turn.told some);
      directory = turn.directory ∙ so_far.directory;
      damaged = λ k is. absurd (cc is);
      fault = tt;
      cause = record {
        later = omega (arith, so_far.cause.later, turn.cause.later);
        failed = λ is. absurd (cc is);
        quiet = λ _. turn.cause.quiet (λ is. cc is) ∙ so_far.cause.quiet (λ is. cc is);
      };
      rest = changes_more first between last so_far.rest turn.rest;
    }

    pub left_failed : (T : Type 0) (e : RecordFault) → So_far → LeavesAnyStore medium faults (IsTurnOf rows cell) between last rows now mid new (failed Bool e)
        → LeavesAnyStore medium faults (IsLabelCell before) first last before now old new (failed T e)
    left_failed T e so_far turn = record {
      size = turn.size;
      settled = tt;
      holds = tt;
      still = λ some. turn.still (so_far.still some);
      told = λ some. so_far.told (turn.told some);
      directory = turn.directory ∙ so_far.directory;
      damaged = λ k is. told_of_none (medium old) (medium mid) so_far.still (turn.damaged k (cc is));
      fault = ⊎_elim inl (λ at. inr (
        at.0,
        record {
          within = subst (λ k. k < 1024) (sym at.1.is) within;
          held = subst IsSome (ap (λ d. label_at d at.0) so_far.directory) (subst (λ k. IsSome (label_at (row_directory rows) k)) (sym at.1.is) at.1.held);
        },
        at.2,
      )) turn.fault;
      cause = record {
        later = omega (arith, so_far.cause.later, turn.cause.later);
        failed = λ is. rose_later (faults old) (faults mid) (faults new) so_far.cause.later (turn.cause.failed (cc is));
        quiet = λ other. turn.cause.quiet (λ is. other (cc is)) ∙ so_far.cause.quiet (λ is. cc is);
      };
      rest = changes_more first between last so_far.rest turn.rest;
    }
