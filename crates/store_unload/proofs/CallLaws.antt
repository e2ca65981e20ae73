-- What telling a label leaves of the devices, by the one fault that a call may end in.
use Rattle.std.proofs.Common.{◌≡◌, ℕ, ◌<◌, inl, inr, List, ◌++◌, Option, Result, Ok, Err, refl, sym, ap, subst, arith}
use Rattle.std.specs.Prelude.{◌⊎◌, IfErr}
use Rattle.device_cells.specs.WhereTold.{WhereTold}
use Rattle.device_cells.proofs.WhereToldLemmas.{told_weaker}
use Rattle.key_cells.specs.Lease.{bench_of, loan_of}
use Rattle.key_cells.specs.declared.leases.Lease.{Lease}
use Rattle.key_records.specs.declared.faults.RecordFault.{RecordFault}
use Rattle.key_records.specs.declared.faults.RecordFault.TheVariants.{Damaged, DiskFault}
use Rattle.line_service.specs.Devices.{TellsFault}
use Rattle.line_service.specs.Sending.{Grows}
use Rattle.line_service.proofs.StopLemmas.{count_still}
use Rattle.store_move.specs.Exports.{ChangesWork}
use Rattle.store_move.specs.Reading.{FailsAt}
use Rattle.store_move.specs.declared.moving.Moved.{Moved}
use Rattle.store_unload.specs.Telling.{Gets, GotSome, KeepsMasters}
use Rattle.store_unload.specs.Writing.{IsFault}
use Rattle.store_unload.specs.declared.writing.MoveFault.{MoveFault}
use Rattle.store_unload.specs.declared.writing.MoveFault.TheVariants.{ReportFault, Store, WriteFault}

abbrev Ends : Type 0
Ends = Result (Unit {0}) MoveFault

-- ---- what a call doesn't end in

pub file_not_report : WriteFault ≡ ReportFault → ⊥
file_not_report same = cc same

pub report_not_file : ReportFault ≡ WriteFault → ⊥
report_not_file same = cc same

pub store_not_file : {fault : RecordFault} → Store fault ≡ WriteFault → ⊥
store_not_file same = cc same

pub store_not_report : {fault : RecordFault} → Store fault ≡ ReportFault → ⊥
store_not_report same = cc same

-- one that ends well ends in no fault
pub done_not : {done : Unit {0}} {fault : MoveFault} → ◌≡◌ {A = Ends} (Ok done) (Err fault) → ⊥
done_not same = cc same

-- ---- what a device holds

pub some_sent : (piece : List ℕ) (result : Ends) (a b : Option (List ℕ)) → Gets piece result a b → WhereTold a b Grows
some_sent piece (Ok done) a b gets = told_weaker a b (λ x y. y ≡ x ++ piece) Grows (λ x y got. (piece, got)) gets.all
some_sent piece (Err failed) a b gets = told_weaker a b (λ x y. GotSome x y piece) Grows (λ x y got. (got.sent, got.held)) gets.part

-- ---- a call that ends in no other fault than `named`

module _ (named : MoveFault) (result : Ends) (fault : IfErr result (λ f. f ≡ named)) where
  no_other : (other : MoveFault) → (other ≡ named → ⊥) → result ≡ Err other → ⊥
  no_other other differs is = differs (subst (λ (r : Ends). IfErr r (λ f. f ≡ named)) is fault)

  -- the count of a device that it didn't call
  pub not_called : (other : MoveFault) → (other ≡ named → ⊥) → (count : ℕ) → TellsFault count count (result ≡ Err other)
  not_called other differs count = count_still count (result ≡ Err other) (no_other other differs)

  -- the count of the store, which was read before
  pub store_read : (Store DiskFault ≡ named → ⊥) → (moved : Moved) (place before now : ℕ) → FailsAt {T = Moved} place before now (Ok moved)
      → TellsFault before now (result ≡ Err (Store DiskFault))
  store_read differs moved place before now fails =
      subst (λ (n : ℕ). TellsFault before n (result ≡ Err (Store DiskFault))) (sym (fails.quiet (λ same. cc same)))
      (not_called (Store DiskFault) differs before)

pub is_fault : (named : MoveFault) → IsFault named → (result : Ends) → IfErr result (λ f. f ≡ named) → IfErr result IsFault
is_fault named holds (Ok done) fault = tt
is_fault named holds (Err f) fault = subst IsFault (sym fault) holds

-- ---- the store failed

abbrev EndsIn : RecordFault → Ends
EndsIn fault = Err (Store fault)

pub none_called : (fault : RecordFault) (other : MoveFault) → (Store fault ≡ other → ⊥) → (count : ℕ) → TellsFault count count (EndsIn fault ≡ Err other)
none_called fault other differs count = count_still count (EndsIn fault ≡ Err other) (λ same. differs (cc same))

module _ (fault : RecordFault) (place before now : ℕ) (fails : FailsAt {T = Moved} place before now (Err fault)) where
  pub store_failed : TellsFault before now (EndsIn fault ≡ EndsIn DiskFault)
  store_failed = record {
    later = fails.later;
    fault = λ same. fails.failed (cc same);
    quiet = λ none. fails.quiet (λ same. none (cc same));
  }

  pub store_fault : place < 1024 → IsFault (Store fault)
  store_fault within = by_kind fails.faults
    where
      by_kind : (fault ≡ DiskFault) ⊎ (fault ≡ Damaged place) → IsFault (Store fault)
      by_kind (inl is) = inl is
      by_kind (inr is) = inr (place, omega (arith, within), is)

-- ---- the lease

pub work_only : (a b : Lease) → ChangesWork a b → KeepsMasters a b
work_only a b changed = record {
  current = ap (λ (l : Lease). (bench_of l).current) changed;
  former = ap (λ (l : Lease). (bench_of l).former) changed;
  coming = ap (λ (l : Lease). (bench_of l).coming) changed;
  loan = ap loan_of changed;
}

pub kept_masters : (l : Lease) → KeepsMasters l l
kept_masters l = record { current = refl; former = refl; coming = refl; loan = refl }

-- ---- from label to label

-- the count of a device, as it was before the last call
pub quiet_to : (before now : ℕ) (failed : Type 0) → now ≡ before → (failed → ⊥) → TellsFault before now failed
quiet_to before now failed same never = subst (λ (n : ℕ). TellsFault before n failed) (sym same) (count_still before failed never)
