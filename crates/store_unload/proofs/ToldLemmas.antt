-- How a move ends whose labels were told, or up to one.
use Rattle.std.proofs.Common.{◌≡◌, ◌∙◌, ℕ, List, Option, None, Some, Result, Ok, Err, refl, sym, ap, subst, arith, inl, inr}
use Rattle.std.specs.Prelude.{◌<◌, ◌⊎◌, IfErr, IsOk, IsSome}
use Rattle.device_cells.specs.Medium.{Keeps, Medium, Told}
use Rattle.device_cells.proofs.Media.{keeps_then, settled_kept, told_at}
use Rattle.device_cells.proofs.WhereToldLemmas.{rose_wider}
use Rattle.cca_roles.specs.declared.roles.Role.{Role}
use Rattle.cca_vectors.specs.Checks.{first_failing}
use Rattle.key_cells.specs.Bench.{Bench}
use Rattle.key_cells.specs.Lease.{bench_of}
use Rattle.key_cells.specs.declared.leases.Lease.{Lease}
use Rattle.key_records.specs.Changes.{KeepsAllButBody}
use Rattle.key_records.specs.declared.faults.RecordFault.{RecordFault}
use Rattle.key_records.specs.declared.faults.RecordFault.TheVariants as record_fault
use Rattle.record_bodies.specs.declared.rows.Row.{Row}
use Rattle.key_tokens.specs.Denotes.{ClearKey}
use Rattle.line_service.specs.Answering.{Holds}
use Rattle.line_service.specs.Devices.{OpeningLeft, TellsFault, devices}
use Rattle.line_service.specs.Stops.{IsOpeningStop}
use Rattle.line_service.specs.declared.stops.Device.TheVariants.{Module, Store}
use Rattle.line_service.specs.declared.stops.Stop.{Stop}
use Rattle.line_service.specs.declared.stops.Stop.TheVariants as stop
use Rattle.cca_machine.specs.State.{State}
use Rattle.master_registers.specs.Masters.{Masters}
use Rattle.request_rules.specs.Stored.{read_stop}
use Rattle.verb_rules.specs.Keys.{keys_of, opened}
use Rattle.verb_rules.specs.Rules.{rule_number}
use Rattle.verb_rules.specs.declared.judging.Judged.{Judged}
use Rattle.verb_rules.specs.declared.rules.Rule.{Rule}
use Rattle.store_unload.specs.Judging.{IsJudged, IsStoreFault}
use Rattle.store_unload.specs.Moves.{clear_of, move_checks}
use Rattle.store_unload.specs.Writing.{IsFault, RestsOnRecords, Tells}
use Rattle.command_words.specs.declared.moves.Move.{Move}
use Rattle.store_unload.specs.declared.writing.MoveFault.{MoveFault}
use Rattle.store_unload.specs.declared.writing.MoveFault.TheVariants as move_fault
use Rattle.store_unload.specs.Statuses.{status_of_lem}
use Rattle.store_unload.specs.Unloading.{IsLabelStatus, MoveRests, MoveTold, TellsLabels, TellsMove, TellsNone, disk_stop, told_status}
use Rattle.store_unload.specs.declared.status.Status.{Status}
use Rattle.store_unload.specs.declared.status.Status.TheVariants as status
use Rattle.store_unload.specs.declared.unloading.MoveStatus.{MoveStatus}
use Rattle.store_unload.specs.declared.unloading.MoveStatus.TheVariants.{Run, Refused, ReportFault}
use Rattle.store_unload.proofs.MoveLemmas.{unwritten}
use Rattle.store_unload.proofs.RestLemmas.{IsReadKey, rests_cut, rests_done, unread}

-- ---- the faults of a move

-- the store failed, or a cell that it has is damaged
pub of_store : (fault : RecordFault) → IsStoreFault fault → IsFault (move_fault.Store fault)
of_store fault (inl is) = inl is
of_store fault (inr damaged) = inr (damaged.0, omega (arith, damaged.1), damaged.2)

not_full : IsFault (move_fault.Store record_fault.Full) → ⊥
not_full (inl is) = cc is
not_full (inr damaged) = cc damaged.2

not_exists : IsFault (move_fault.Store record_fault.Exists) → ⊥
not_exists (inl is) = cc is
not_exists (inr damaged) = cc damaged.2

cell_within : (cell : ℕ) → IsFault (move_fault.Store (record_fault.Damaged cell)) → cell < 1024
cell_within cell (inl is) = absurd (cc is)
cell_within cell (inr damaged) = let same : cell ≡ damaged.0 = cc damaged.2 in omega (arith, damaged.1, same)

pub told_kind : (r : Result (Unit {0}) MoveFault) → IfErr r IsFault → IsLabelStatus (told_status r)
told_kind (Ok done) faults = tt
told_kind (Err move_fault.WriteFault) faults = tt
told_kind (Err move_fault.ReportFault) faults = tt
told_kind (Err (move_fault.Store record_fault.DiskFault)) faults = tt
told_kind (Err (move_fault.Store (record_fault.Damaged cell))) faults = cell_within cell faults
told_kind (Err (move_fault.Store record_fault.Full)) faults = absurd (not_full faults)
told_kind (Err (move_fault.Store record_fault.Exists)) faults = absurd (not_exists faults)

-- ---- what such a status isn't

pub never_refused : (r : Result (Unit {0}) MoveFault) (rule : ℕ) → told_status r ≡ Refused rule → ⊥
never_refused (Ok done) rule h = cc h
never_refused (Err move_fault.WriteFault) rule h = cc h
never_refused (Err move_fault.ReportFault) rule h = cc h
never_refused (Err (move_fault.Store fault)) rule h = cc h

pub never_none : (r : Result (Unit {0}) MoveFault) → TellsNone (told_status r) → ⊥
never_none r (inl refused) = never_refused r refused.0 refused.1
never_none (Ok done) (inr (inl h)) = cc h
never_none (Ok done) (inr (inr h)) = cc h.1
never_none (Err move_fault.WriteFault) (inr (inl h)) = cc h
never_none (Err move_fault.WriteFault) (inr (inr h)) = cc h.1
never_none (Err move_fault.ReportFault) (inr (inl h)) = cc h
never_none (Err move_fault.ReportFault) (inr (inr h)) = cc h.1
never_none (Err (move_fault.Store record_fault.DiskFault)) (inr (inl h)) = cc h
never_none (Err (move_fault.Store record_fault.DiskFault)) (inr (inr h)) = cc h.1
never_none (Err (move_fault.Store (record_fault.Damaged cell))) (inr (inl h)) = cc h
never_none (Err (move_fault.Store (record_fault.Damaged cell))) (inr (inr h)) = cc h.1
never_none (Err (move_fault.Store record_fault.Full)) (inr (inl h)) = cc h
never_none (Err (move_fault.Store record_fault.Full)) (inr (inr h)) = cc h.1
never_none (Err (move_fault.Store record_fault.Exists)) (inr (inl h)) = cc h
never_none (Err (move_fault.Store record_fault.Exists)) (inr (inr h)) = cc h.1

-- and a move that a rule refuses has no other status
pub not_run : {rule : ℕ} {told : Status} → Refused rule ≡ Run told → ⊥
not_run h = cc h

pub not_report : {rule : ℕ} → Refused rule ≡ ReportFault → ⊥
not_report h = cc h

-- ---- of which outcome it tells

pub at_file : (r : Result (Unit {0}) MoveFault) → told_status r ≡ Run status.WriteFault → r ≡ Err move_fault.WriteFault
at_file (Ok done) h = absurd (cc h)
at_file (Err move_fault.WriteFault) h = refl
at_file (Err move_fault.ReportFault) h = absurd (cc h)
at_file (Err (move_fault.Store record_fault.DiskFault)) h = absurd (cc h)
at_file (Err (move_fault.Store (record_fault.Damaged cell))) h = absurd (cc h)
at_file (Err (move_fault.Store record_fault.Full)) h = absurd (cc h)
at_file (Err (move_fault.Store record_fault.Exists)) h = absurd (cc h)

pub at_report : (r : Result (Unit {0}) MoveFault) → told_status r ≡ ReportFault → r ≡ Err move_fault.ReportFault
at_report (Ok done) h = absurd (cc h)
at_report (Err move_fault.WriteFault) h = absurd (cc h)
at_report (Err move_fault.ReportFault) h = refl
at_report (Err (move_fault.Store fault)) h = absurd (cc h)

pub at_store : (r : Result (Unit {0}) MoveFault) → IfErr r IsFault → told_status r ≡ Run status.StoreFault → r ≡ Err (move_fault.Store record_fault.DiskFault)
at_store (Ok done) faults h = absurd (cc h)
at_store (Err move_fault.WriteFault) faults h = absurd (cc h)
at_store (Err move_fault.ReportFault) faults h = absurd (cc h)
at_store (Err (move_fault.Store record_fault.DiskFault)) faults h = refl
at_store (Err (move_fault.Store (record_fault.Damaged cell))) faults h = absurd (cc h)
at_store (Err (move_fault.Store record_fault.Full)) faults h = absurd (not_full faults)
at_store (Err (move_fault.Store record_fault.Exists)) faults h = absurd (not_exists faults)

-- a device whose faults a result tells, as the status tells them
module _ (r : Result (Unit {0}) MoveFault) (outcome : MoveStatus) (is : outcome ≡ told_status r) where
  pub file_as : (before now : ℕ) → TellsFault before now (r ≡ Err move_fault.WriteFault) → TellsFault before now (outcome ≡ Run status.WriteFault)
  file_as before now left = record {
    later = left.later;
    fault = λ h. left.fault (at_file r (sym is ∙ h));
    quiet = λ never. left.quiet (λ h. never (is ∙ ap told_status h));
  }

  pub report_as : (before now : ℕ) → TellsFault before now (r ≡ Err move_fault.ReportFault) → TellsFault before now (outcome ≡ ReportFault)
  report_as before now left = record {
    later = left.later;
    fault = λ h. left.fault (at_report r (sym is ∙ h));
    quiet = λ never. left.quiet (λ h. never (is ∙ ap told_status h));
  }

  pub store_as : (before now : ℕ) → IfErr r IsFault → TellsFault before now (r ≡ Err (move_fault.Store record_fault.DiskFault)) → TellsFault before now (outcome ≡ Run status.StoreFault)
  store_as before now faults left = record {
    later = left.later;
    fault = λ h. left.fault (at_store r faults (sym is ∙ h));
    quiet = λ never. left.quiet (λ h. never (is ∙ ap told_status h));
  }

-- the count of the store, as the fault of its reading tells it
pub read_as : {T : Type 0} (r : Result T RecordFault) (fault : RecordFault) → r ≡ Err fault → (before now : ℕ)
    → TellsFault before now (r ≡ Err record_fault.DiskFault)
    → TellsFault before now (◌≡◌ {A = Result (Unit {0}) MoveFault} (Err (move_fault.Store fault)) (Err (move_fault.Store record_fault.DiskFault)))
read_as r fault is before now left = record {
  later = left.later;
  fault = λ h. left.fault (cc (is, h));
  quiet = λ never. left.quiet (λ h. never (cc (is, h)));
}

-- no fault came of a call before
pub fault_then : (a b c : ℕ) (X Y : Type 0) → TellsFault a b X → (X → ⊥) → TellsFault b c Y → TellsFault a c Y
fault_then a b c X Y first none second = record {
  later = omega (arith, first.later, second.later);
  fault = λ h. rose_wider a b c c first.later second.later (omega arith) (second.fault h);
  quiet = λ never. second.quiet never ∙ first.quiet none;
}

-- ---- what is told from the state for which the disks stand

-- what is said of a disk's content that is told, is said
pub where_told : (m0 m1 : Medium) (P : List ℕ → Type 0) (Q : Type 0) → Holds m0 P → m1.content ≡ m0.content → Told m1 (λ _. Q) → Q
where_told m0 m1 P Q holds same told = told_at m1.content (λ _. Q) holds.image (same ∙ holds.told) told

-- no rule refuses the move, and this is its transport key, also once the body of the bench has changed
pub judged_key : (s : State) (w : Move) (old new : Lease) → KeepsAllButBody old new → (r : Result Judged Rule) (judged : Judged) → r ≡ Ok judged
    → IsJudged s w (bench_of old) r → (first_failing (move_checks s w) ≡ None) × (opened (bench_of new) judged ≡ clear_of s w.transport)
judged_key s w old new rest r judged is judges =
    let here : IsJudged s w (bench_of old) (Ok judged) = subst (IsJudged s w (bench_of old)) is judges in
    (here.0, ap (λ (b : Bench). opened b judged) (ap bench_of rest) ∙ here.1)

module _ (s : State) (w : Move) (f0 f1 r0 r1 : Option (List ℕ)) (X Y : Type 0) where
  module _ (permitted : first_failing (move_checks s w) ≡ None) where
    pub labels_told : (r : Result (Unit {0}) MoveFault) → IfErr r IsFault → Tells s w r f0 f1 r0 r1
        → (r ≡ Err move_fault.WriteFault → Y → ⊥) → (r ≡ Err move_fault.ReportFault → Y → ⊥) → (r ≡ Err (move_fault.Store record_fault.DiskFault) → X → ⊥)
        → MoveTold s w (told_status r) f0 f1 r0 r1 X Y
    labels_told (Ok done) faults tells file report store = record {
      done = λ h. tells.done;
      permitted = λ h. permitted;
      cut = λ h. absurd (uncut h);
      lost = λ h. absurd (cc h);
      refused = λ rule h. absurd (cc h);
      refuses = λ still rule h. absurd (cc (permitted, h));
      undamaged = λ device cell h. cc h;
      complete = λ still outputs none. inl refl;
    }
      where
        uncut : (Run status.Done ≡ Run status.WriteFault) ⊎ (Run status.Done ≡ ReportFault) → ⊥
        uncut (inl h) = cc h
        uncut (inr h) = cc h
    labels_told (Err move_fault.WriteFault) faults tells file report store = record {
      done = λ h. absurd (cc h);
      permitted = λ h. permitted;
      cut = λ h. tells.cut;
      lost = λ h. absurd (cc h);
      refused = λ rule h. absurd (cc h);
      refuses = λ still rule h. absurd (cc (permitted, h));
      undamaged = λ device cell h. cc h;
      complete = λ still outputs none. absurd (file refl outputs);
    }
    labels_told (Err move_fault.ReportFault) faults tells file report store = record {
      done = λ h. absurd (cc h);
      permitted = λ h. permitted;
      cut = λ h. tells.cut;
      lost = λ h. absurd (cc h);
      refused = λ rule h. absurd (cc h);
      refuses = λ still rule h. absurd (cc (permitted, h));
      undamaged = λ device cell h. cc h;
      complete = λ still outputs none. absurd (report refl outputs);
    }
    labels_told (Err (move_fault.Store record_fault.DiskFault)) faults tells file report store = record {
      done = λ h. absurd (cc h);
      permitted = λ h. permitted;
      cut = λ h. tells.cut;
      lost = λ h. inr (permitted, tells.cut);
      refused = λ rule h. absurd (cc h);
      refuses = λ still rule h. absurd (cc (permitted, h));
      undamaged = λ device cell h. cc h;
      complete = λ still outputs none. absurd (store refl still);
    }
    labels_told (Err (move_fault.Store (record_fault.Damaged cell))) faults tells file report store = absurd (tells.undamaged cell refl)
    labels_told (Err (move_fault.Store record_fault.Full)) faults tells file report store = absurd (not_full faults)
    labels_told (Err (move_fault.Store record_fault.Exists)) faults tells file report store = absurd (not_exists faults)

-- a rule refuses the move
module _ (s : State) (w : Move) (file report : Option (List ℕ)) (X Y : Type 0) where
  pub rule_told : (bench : Bench) (r : Result Judged Rule) (broken : Rule) (number : ℕ) → r ≡ Err broken → number ≡ rule_number broken
      → IsJudged s w bench r → MoveTold s w (Refused number) file file report report X Y
  rule_told bench r broken number is numbered judges =
      let here : first_failing (move_checks s w) ≡ Some (rule_number broken) = subst (IsJudged s w bench) is judges in
      let first : first_failing (move_checks s w) ≡ Some number = here ∙ ap Some (sym numbered) in
      record {
        done = λ h. absurd (cc h);
        permitted = λ h. absurd (untold h);
        cut = λ h. absurd (untold (inr h));
        lost = λ h. absurd (cc h);
        refused = λ rule h. first ∙ (let same : number ≡ rule = cc h in ap Some same);
        refuses = λ still rule h. inl (let same : number ≡ rule = cc (first, h) in ap Refused same);
        undamaged = λ device cell h. cc h;
        complete = λ still outputs none. absurd (cc (first, none));
      }
    where
      untold : TellsLabels (Refused number) → ⊥
      untold (inl h) = cc h
      untold (inr (inl h)) = cc h
      untold (inr (inr h)) = cc h

-- ---- what it rests on

module _ (m : Masters) (roles : List (Option Role)) (w : Move) (rows : List (Option Row)) (body : List ℕ)
    (clear : ClearKey) (key : IsReadKey m roles w rows body clear) (f0 f1 r0 r1 : Option (List ℕ)) where
  pub rests_told : (r : Result (Unit {0}) MoveFault) → RestsOnRecords (keys_of m) w rows clear.key r f0 f1 r0 r1
      → MoveRests m roles w rows (told_status r) f0 f1 r0 r1
  rests_told (Ok done) rests = rests_done m roles w rows body clear key f0 f1 r0 r1 rests.done
  rests_told (Err move_fault.WriteFault) rests = rests_cut m roles w rows body clear key f0 f1 r0 r1 (Run status.WriteFault) (λ h. cc h) rests.cut
  rests_told (Err move_fault.ReportFault) rests = rests_cut m roles w rows body clear key f0 f1 r0 r1 ReportFault (λ h. cc h) rests.cut
  rests_told (Err (move_fault.Store fault)) rests =
      rests_cut m roles w rows body clear key f0 f1 r0 r1 (told_status (Err (move_fault.Store fault))) (unread (read_stop fault) _ refl) rests.cut

-- ---- the disks

no_module : (outcome : MoveStatus) → IsLabelStatus outcome → disk_stop outcome ≡ Err stop.ModuleFault → ⊥
no_module (Run status.Done) kind h = cc h
no_module (Run status.WriteFault) kind h = cc h
no_module (Run status.StoreFault) kind h = cc h
no_module (Run status.ModuleFault) kind h = kind
no_module (Run (status.Damaged Store cell)) kind h = cc h
no_module (Run (status.Damaged Module cell)) kind h = kind
no_module (Run status.Usage) kind h = kind
no_module (Run status.NoMemory) kind h = kind
no_module (Run status.ReadFault) kind h = kind
no_module (Run status.EntropyFault) kind h = kind
no_module (Run status.InputLimit) kind h = kind
no_module (Refused rule) kind h = cc h
no_module ReportFault kind h = cc h

as_store : (outcome : MoveStatus) → IsLabelStatus outcome → disk_stop outcome ≡ Err stop.StoreFault → outcome ≡ Run status.StoreFault
as_store (Run status.Done) kind h = absurd (cc h)
as_store (Run status.WriteFault) kind h = absurd (cc h)
as_store (Run status.StoreFault) kind h = refl
as_store (Run status.ModuleFault) kind h = absurd kind
as_store (Run (status.Damaged Store cell)) kind h = absurd (cc h)
as_store (Run (status.Damaged Module cell)) kind h = absurd kind
as_store (Run status.Usage) kind h = absurd kind
as_store (Run status.NoMemory) kind h = absurd kind
as_store (Run status.ReadFault) kind h = absurd kind
as_store (Run status.EntropyFault) kind h = absurd kind
as_store (Run status.InputLimit) kind h = absurd kind
as_store (Refused rule) kind h = absurd (cc h)
as_store ReportFault kind h = absurd (cc h)

-- disks that were opened, and the store read then
pub disks_after : {T : Type 0} (r : Result T Stop) (held : T) → r ≡ Ok held → (outcome : MoveStatus) → IsLabelStatus outcome
    → (m0 m1 d0 d1 d2 : Medium) (m_before m_now d_before d_then d_now : ℕ)
    → OpeningLeft r (record { old = devices m0 m_before d0 d_before None 0; new = devices m1 m_now d1 d_then None 0 })
    → Keeps d1 d2 → TellsFault d_then d_now (outcome ≡ Run status.StoreFault)
    → OpeningLeft (disk_stop outcome) (record { old = devices m0 m_before d0 d_before None 0; new = devices m1 m_now d2 d_now None 0 })
disks_after r held is outcome kind m0 m1 d0 d1 d2 m_before m_now d_before d_then d_now left keeps told =
    let opened : IsOk r = subst IsOk (sym is) refl in
    record {
      module_kept = left.module_kept;
      store_kept = keeps_then d0 d1 d2 left.store_kept keeps;
      module_left = record {
        size = left.module_left.size;
        still = left.module_left.still;
        settled = λ ok. left.module_left.settled opened;
        later = left.module_left.later;
        fault = λ h. absurd (no_module outcome kind h);
        quiet = λ never. left.module_left.quiet (λ h. cc (h, is));
      };
      store_left = record {
        size = keeps.moments.size ∙ left.store_left.size;
        still = λ some. subst IsSome (sym keeps.content) (left.store_left.still some);
        settled = λ ok. settled_kept d1 d2 keeps (left.store_left.settled opened);
        later = omega (arith, left.store_left.later, told.later);
        fault = λ h. rose_wider d_before d_then d_now d_now left.store_left.later told.later (omega arith) (told.fault (as_store outcome kind h));
        quiet = λ never. told.quiet (λ h. never (ap disk_stop h)) ∙ left.store_left.quiet (λ h. cc (h, is));
      };
    }

-- disks that weren't opened: the move isn't judged
pub never_tells : (why : Stop) (told : Status) → IsOpeningStop why → told ≡ status_of_lem (Err why) → TellsMove (Run told) → ⊥
never_tells why told kind is (inl refused) = cc refused.1
never_tells why told kind is (inr (inl h)) = unread why told is h
never_tells why told kind is (inr (inr (inl h))) = unwritten why told kind is h
never_tells why told kind is (inr (inr (inr h))) = cc h
