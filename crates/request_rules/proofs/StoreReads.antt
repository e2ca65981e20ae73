-- What calls that judge leave of the store, one after the other.
use Rattle.std.proofs.Common.{◌≡◌, ◌∙◌, ℕ, Bool, true, List, Option, Result, Ok, Err, refl, sym, ap, subst, ⊎_elim, arith}
use Rattle.std.specs.Prelude.{◌||◌, ◌⊎◌, IsErrAnd, IsOk}
use Rattle.std.proofs.lemmas.Bool.{or_left, or_parts, or_right}
use Rattle.key_cells.specs.Lease.{bench_of, holding}
use Rattle.key_cells.specs.declared.leases.Lease.{Lease}
use Rattle.key_records.specs.Changes.{KeepsAllButBody}
use Rattle.key_records.specs.declared.faults.RecordFault.{RecordFault}
use Rattle.key_records.specs.declared.faults.RecordFault.TheVariants.{Damaged, DiskFault}
use Rattle.record_bodies.specs.declared.rows.Row.{Row}
use Rattle.line_service.specs.declared.stops.Stop.{Stop}
use Rattle.line_service.specs.declared.stops.Device.TheVariants.{Store}
use Rattle.line_service.specs.declared.stops.Stop.TheVariants.{StoreFault}
use Rattle.line_service.specs.declared.stops.Stop.TheVariants as stops
use Rattle.line_service.proofs.StopLemmas.{disk_as, disk_on, follows_stop}
use Rattle.master_registers.specs.declared.registers.Registers.{Registers}
use Rattle.device_cells.specs.Medium.{IsSettled, Medium}
use Rattle.device_cells.proofs.Media.{keeps_still, keeps_then}
use Rattle.request_rules.specs.Stored.{ReadsStore, read_stop}
use Rattle.request_rules.proofs.LabelsRead.{at_after}

rest_then : (l0 l1 l2 : Lease) → KeepsAllButBody l0 l1 → KeepsAllButBody l1 l2 → KeepsAllButBody l0 l2
rest_then l0 l1 l2 one two = two ∙ ap (λ (l : Lease). holding l (record (bench_of l) { body = (bench_of l2).body })) one

module _ {D : Type 0} {medium : D → Medium} {faults : D → ℕ} {held : Registers} {rows : List (Option Row)} where
  -- the call is the last one, and is done; other labels may be named too
  pub reads_done : {T U : Type 0} {one : Bool} (two : Bool) {l0 l1 : Lease} {d0 d1 : D} {a : T} {b : U}
      → ReadsStore medium faults one held rows l0 l1 d0 d1 (Ok a) → ReadsStore medium faults (one || two) held rows l0 l1 d0 d1 (Ok b)
  reads_done {one = one} two reads = record {
    keeps = reads.keeps;
    disk = record {
      size = reads.disk.size;
      still = reads.disk.still;
      settled = λ done. reads.disk.settled refl;
      later = reads.disk.later;
      fault = λ is. cc is;
      quiet = λ none. reads.disk.quiet (λ is. cc is);
    };
    spared = λ none. reads.spared (or_parts one two none).0;
    named = λ is. cc is;
    stops = tt;
    sound = λ s at. tt;
    rest = reads.rest;
  }

  -- or it stops
  pub reads_stopped : {T U : Type 0} {one : Bool} (two : Bool) {l0 l1 : Lease} {d0 d1 : D} {stop : Stop} (q : Result U Stop) → IsErrAnd q (λ e. e ≡ stop)
      → ReadsStore {T = T} medium faults one held rows l0 l1 d0 d1 (Err stop) → ReadsStore medium faults (one || two) held rows l0 l1 d0 d1 q
  reads_stopped two (Ok b) is reads = absurd is
  reads_stopped {T} {U} {one = one} two {l0} {l1} {d0} {d1} {stop} (Err other) is reads =
      subst (λ (x : Stop). ReadsStore {T = U} medium faults (one || two) held rows l0 l1 d0 d1 (Err x)) (sym is)
      (record {
        keeps = reads.keeps;
        disk = disk_as (Err stop) (Err stop) (follows_stop {T = T} {U = U} (Err stop) stop refl) (medium d0) (medium d1) (faults d0) (faults d1) StoreFault reads.disk;
        spared = λ none. reads.spared (or_parts one two none).0;
        named = λ is. let same : stop ≡ StoreFault = cc is in or_left one two (reads.named (ap Err same));
        stops = reads.stops;
        sound = reads.sound;
        rest = reads.rest;
      })

  -- a call for a label that is named
  pub reads_label : {T : Type 0} {named : Bool} {l0 l1 : Lease} {d0 d1 : D} {r : Result T Stop} → named ≡ true
      → ReadsStore medium faults true held rows l0 l1 d0 d1 r → ReadsStore medium faults named held rows l0 l1 d0 d1 r
  reads_label {l0 = l0} {l1 = l1} {d0 = d0} {d1 = d1} {r = r} is reads =
      subst (λ (b : Bool). ReadsStore medium faults b held rows l0 l1 d0 d1 r) (sym is) reads

  -- a call that reads nothing
  pub reads_untouched : {T : Type 0} {named : Bool} {l : Lease} {d : D} {a : T} → IsSettled (medium d) → ReadsStore medium faults named held rows l l d d (Ok a)
  reads_untouched {d = d} settled = record {
    keeps = keeps_still (medium d);
    disk = record {
      size = refl;
      still = λ some. some;
      settled = λ done. settled;
      later = omega arith;
      fault = λ is. cc is;
      quiet = λ none. refl;
    };
    spared = λ none. refl;
    named = λ is. cc is;
    stops = tt;
    sound = λ s at. tt;
    rest = refl;
  }

  -- a call after one that was done
  pub reads_then : {T U : Type 0} {one two : Bool} {l0 l1 l2 : Lease} {d0 d1 d2 : D} {a : T} {q : Result U Stop}
      → ReadsStore {T = T} medium faults one held rows l0 l1 d0 d1 (Ok a) → ReadsStore medium faults two held rows l1 l2 d1 d2 q
      → ReadsStore medium faults (one || two) held rows l0 l2 d0 d2 q
  reads_then {one = one} {two = two} {l0} {l1} {l2} {d0} {d1} {d2} {q = q} first second = record {
    keeps = keeps_then (medium d0) (medium d1) (medium d2) first.keeps second.keeps;
    disk = disk_on (medium d0) (medium d1) (medium d2) (faults d0) (faults d1) (faults d2) (IsOk q) (q ≡ Err StoreFault)
        first.disk.size first.disk.still (first.disk.quiet (λ is. cc is)) second.disk;
    spared = λ none. let each = or_parts one two none in second.spared each.1 ∙ first.spared each.0;
    named = λ is. or_right one two (second.named is);
    stops = second.stops;
    sound = λ s at. second.sound s (at_after s l0 l1 first.rest held rows (medium d0) (medium d1) first.keeps at);
    rest = rest_then l0 l1 l2 first.rest second.rest;
  }

-- ---- the cell that a stop names

-- of a record that wasn't read
pub stopped_at : (fault : RecordFault) (stop : Stop) (place n : ℕ) → stop ≡ read_stop fault → (fault ≡ DiskFault) ⊎ (fault ≡ Damaged place)
    → stop ≡ stops.Damaged Store n → place ≡ n
stopped_at fault stop place n answered failed named =
    ⊎_elim
    (λ disk. let no : StoreFault ≡ stops.Damaged Store n = sym (answered ∙ ap read_stop disk) ∙ named in cc no)
    (λ damaged. let same : stops.Damaged Store place ≡ stops.Damaged Store n = sym (answered ∙ ap read_stop damaged) ∙ named in cc same)
    failed

-- a call that hands on the stop of another one
pub stopped_as : {T U : Type 0} {P : Type 0} {stop named : Stop} (r : Result U Stop) → IsErrAnd r (λ e. e ≡ stop) → (◌≡◌ {A = Result T Stop} (Err stop) (Err named) → P)
    → r ≡ Err named → P
stopped_as (Ok b) stops gives is = absurd stops
stopped_as {named = named} (Err other) stops gives is = let same : other ≡ named = cc is in gives (ap Err (sym stops ∙ same))

-- and one that doesn't stop
pub never_stopped : {T : Type 0} {P : Type 0} {a : T} {stop : Stop} → ◌≡◌ {A = Result T Stop} (Ok a) (Err stop) → P
never_stopped is = cc is
