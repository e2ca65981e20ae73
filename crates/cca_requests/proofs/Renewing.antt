-- An action on the labels of the store is what the machine makes of it.
use Rattle.std.proofs.Common.{◌≡◌, ℕ, zero, suc, Bool, true, false, ◌∷◌, [], List, Option, None, Result, Ok, Err, codes, refl, ap, sym, ◌∙◌, subst, inr, ⊎_elim, arith}
use Rattle.std.specs.Prelude.{◌⊎◌, ◌<◌, ◌≤◌, OnOk, OnErr, IfErr, IfOk, cond, decimal, get_or, length}
use Rattle.std.proofs.lemmas.Fmt.{length-decimal-le}
use Rattle.device_cells.specs.Medium.{Medium, Told, From, Becomes}
use Rattle.device_cells.specs.SpareBytes.{Turned}
use Rattle.key_cells.specs.declared.leases.Lease.{Lease}
use Rattle.device_cells.proofs.Media.{each_weaker, told_at}
use Rattle.record_bodies.specs.StoreStands.{KeepsLabels}
use Rattle.key_records.specs.declared.faults.RecordFault.{RecordFault}
use Rattle.key_records.specs.declared.faults.RecordFault.TheVariants.{DiskFault, Damaged, Full, Exists}
use Rattle.record_bodies.specs.declared.rows.Row.{Row}
use Rattle.master_registers.specs.declared.registers.Registers.{Registers}
use Rattle.line_service.specs.Replies.{Number, Done, spelled}
use Rattle.line_service.specs.declared.stops.Stop.{Stop}
use Rattle.line_service.specs.declared.stops.Device.TheVariants.{Store}
use Rattle.line_service.specs.declared.stops.Stop.TheVariants.{StoreFault}
use Rattle.line_service.specs.declared.stops.Stop.TheVariants as stop
use Rattle.verb_rules.specs.Keys.{keys_of}
use Rattle.record_bodies.specs.Further.{further, changed_count}
use Rattle.record_bodies.specs.declared.actions.StoreAction.{StoreAction}
use Rattle.reencipher.specs.Runs.{IsLabelCell, IsOnTheWay, LeavesAnyStore, Reenciphers, changed_rows, changes_row}
use Rattle.cca_machine.specs.State.{State, IsStoreOf}
use Rattle.cca_machine.specs.Act.{ChangeLabels, Outcome}
use Rattle.cca_machine.specs.declared.effects.Effect.{Effect}
use Rattle.request_rules.specs.Judging.{IsStoreStop}
use Rattle.request_rules.specs.Standing.{StandsInStore}
use Rattle.request_rules.specs.Stored.{IsReadFault, read_stop}
use Rattle.line_service.specs.Lines.{EndsInNewline}
use Rattle.cca_requests.specs.Serving.{IsEither, SameBut, CarriesStore, LeavesStore}
use Rattle.cca_requests.specs.Changes.{IsAnswer, RunsEffect, RunsThrough, plainly, run_reply, run_stop}
use Rattle.cca_requests.proofs.Contents.{holds_at}
use Rattle.cca_requests.proofs.ReplyLines.{reply_line}
use Rattle.cca_requests.proofs.Serving.{told_some}

module _ (a : StoreAction) (d0 d1 : Medium) (s : State) (rows later : List (Option Row)) (stands : StandsInStore s rows d0) (result : Result ℕ RecordFault)
    (runs : Reenciphers a (keys_of s.registers) s.labels later d0 d1 result) where
  abbrev after : Outcome
  after = plainly s (ChangeLabels a)

  either : (image : List ℕ) → From (IsOnTheWay a (keys_of s.registers) s.labels) d0 image → IsEither IsStoreOf s after image
  either image from = inr (inr (from.2.cells, from.2.within, from.2.stands))

  outside : (image : List ℕ) → From (IsOnTheWay a (keys_of s.registers) s.labels) d0 image → From (SameBut after.store_cells) d0 image
  outside image from = (from.0, from.1, from.2.rest)

  -- the labels are what the action makes of them, and so many were changed
  renewed : (n : ℕ) (reply : List ℕ) → result ≡ Ok n → reply ≡ spelled (Done (Number (codes "changed") n ∷ [])) → CarriesStore after s (Ok tt) reply later d0 d1
  renewed n reply is text = record {
    done = record { reply_is = text ∙ ap (λ k. spelled (Done (Number (codes "changed") k ∷ []))) counted; stands = now };
    moments = each_weaker d0 d1 (From (IsOnTheWay a (keys_of s.registers) s.labels) d0) (IsEither IsStoreOf s after) runs.moments either;
    outside = each_weaker d0 d1 (From (IsOnTheWay a (keys_of s.registers) s.labels) d0) (From (SameBut after.store_cells) d0) runs.moments outside;
    stops = tt;
  }
    where
      counted : n ≡ changed_count a s.labels
      counted =
          told_at d0.content (λ c. n ≡ changed_count a s.labels) stands.in_store.image stands.in_store.told
          (subst (λ r. IfOk r (λ k. Told d0 (λ c. k ≡ changed_count a s.labels))) is runs.count)

      now : StandsInStore after.state later d1
      now =
          let holds = holds_at d1.content d1 (KeepsLabels (keys_of s.registers) later (further a s.labels 1024)) refl
          (runs.either.still (told_some d0 stands.in_store.image stands.in_store.told))
          (subst (λ r. OnOk r (Told d1 (KeepsLabels (keys_of s.registers) later (further a s.labels 1024)))) is runs.keeps) in
          record {
            in_store = record { image = holds.image; told = holds.told; has = holds.has.stands };
            agrees = holds.has.agrees;
          }

  -- the store failed on the way
  ended : (reply : List ℕ) → CarriesStore after s (Err StoreFault) reply later d0 d1
  ended reply = record {
    done = tt;
    moments = each_weaker d0 d1 (From (IsOnTheWay a (keys_of s.registers) s.labels) d0) (IsEither IsStoreOf s after) runs.moments either;
    outside = each_weaker d0 d1 (From (IsOnTheWay a (keys_of s.registers) s.labels) d0) (From (SameBut after.store_cells) d0) runs.moments outside;
    stops = tt;
  }

-- ---- how many labels were changed

one_more : (changes : Bool) → cond changes 1 0 ≤ 1
one_more true = omega arith
one_more false = omega arith

-- no more than there are cells
few_changed : (a : StoreAction) (held : Registers) (rows : List (Option Row)) (cells : ℕ) → changed_rows a held rows cells ≤ cells
few_changed a held rows zero = omega arith
few_changed a held rows (suc n) = omega (arith, few_changed a held rows n, one_more (changes_row a held (get_or rows n None)))

-- so the number is a short one
pub short_number : (n : ℕ) → n ≤ 1024 → length (decimal n) ≤ 10
short_number n few = length-decimal-le 10 n (omega arith) (omega (arith, few)) (omega (arith, few))

-- ---- what it leaves whatever the store holds

-- only a disk's fault is told as one of the store
told_fault : {rows : List (Option Row)} (fault : RecordFault) → (fault ≡ DiskFault) ⊎ ((cell : ℕ) × IsLabelCell rows cell × (fault ≡ Damaged cell))
    → IsStoreStop (read_stop fault) × ((read_stop fault ≡ StoreFault → fault ≡ DiskFault) × (fault ≡ DiskFault → read_stop fault ≡ StoreFault))
told_fault DiskFault which = (tt, (λ is. refl, λ is. refl))
told_fault (Damaged cell) which = (⊎_elim (λ disk. cc disk) (λ damaged. let within : cell < 1024 = subst (λ n. n < 1024) (sym (cc damaged.2)) damaged.1.within in within) which, (λ is. cc is, λ is. cc is))
told_fault Full which = ⊎_elim (λ disk. cc disk) (λ damaged. cc damaged.2) which
told_fault Exists which = ⊎_elim (λ disk. cc disk) (λ damaged. cc damaged.2) which

read_fault : {rows : List (Option Row)} (fault : RecordFault) → (fault ≡ DiskFault) ⊎ ((cell : ℕ) × IsLabelCell rows cell × (fault ≡ Damaged cell)) → IsReadFault fault
read_fault DiskFault which = tt
read_fault (Damaged cell) which = tt
read_fault Full which = ⊎_elim (λ disk. cc disk) (λ damaged. cc damaged.2) which
read_fault Exists which = ⊎_elim (λ disk. cc disk) (λ damaged. cc damaged.2) which

module _ {D : Type 0} {medium : D → Medium} {faults : D → ℕ} {lease later : Lease} {rows next : List (Option Row)} {old new : D} {reply : List ℕ}
    (size : (medium old).size ≡ 1572864) where
  renewed_left : (n : ℕ) → EndsInNewline reply → LeavesAnyStore {T = ℕ} medium faults (IsLabelCell rows) lease later rows next old new (Ok n) → Becomes (Turned 1024) (medium old) (medium new)
      → LeavesStore (medium old) (medium new) (faults old) (faults new) (Ok tt) reply rows next
  renewed_left n line left turned = record {
    disk = record {
      size = left.size ∙ sym size;
      still = left.still;
      settled = λ ok. left.settled;
      later = left.cause.later;
      fault = λ is. cc is;
      quiet = λ none. left.cause.quiet (λ is. cc is);
    };
    told = left.told;
    turned = turned;
    holds = left.holds;
    line = line;
    silent = tt;
    memory = tt;
    stops = tt;
  }

  ended_left : (fault : RecordFault) (stop : Stop) → LeavesAnyStore {T = ℕ} medium faults (IsLabelCell rows) lease later rows next old new (Err fault) → stop ≡ read_stop fault → reply ≡ []
      → LeavesStore (medium old) (medium new) (faults old) (faults new) (Err stop) reply rows next
  ended_left fault stop left is silent =
      let cause = told_fault fault left.fault in
      record {
        disk = record {
          size = left.size ∙ sym size;
          still = left.still;
          settled = λ ok. cc ok;
          later = left.cause.later;
          fault = λ failed. left.cause.failed (ap Err (cause.1.0 (sym is ∙ cc failed)));
          quiet = λ none. left.cause.quiet (λ failed. none (ap Err (is ∙ cause.1.1 (cc failed))));
        };
        told = left.told;
        turned = tt;
        holds = tt;
        line = tt;
        silent = silent;
        memory = left.directory;
        stops = subst IsStoreStop (sym is) cause.0;
      }

-- ---- a run, by how it came out

-- why it ended
abbrev pub IsRunFault : List (Option Row) → RecordFault → Type 0
IsRunFault rows fault = (fault ≡ DiskFault) ⊎ ((cell : ℕ) × IsLabelCell rows cell × (fault ≡ Damaged cell))

pub run_few : (a : StoreAction) (held : Registers) (rows : List (Option Row)) (result : Result ℕ RecordFault)
    → IfOk result (λ n. n ≡ changed_rows a held rows 1024) → IfOk result (λ n. n ≤ 1024)
run_few a held rows (Ok n) counted = subst (λ k. k ≤ 1024) (sym counted) (few_changed a held rows 1024)
run_few a held rows (Err why) counted = tt

pub run_read : (rows : List (Option Row)) (result : Result ℕ RecordFault) → IfErr result (IsRunFault rows) → IfErr result IsReadFault
run_read rows (Ok n) fault = tt
run_read rows (Err why) fault = read_fault why fault

pub run_carries : (a : StoreAction) (d0 d1 : Medium) (s : State) (rows later : List (Option Row)) → StandsInStore s rows d0
    → (result : Result ℕ RecordFault) → Reenciphers a (keys_of s.registers) s.labels later d0 d1 result
    → IfErr result (IsRunFault rows) → ((n : ℕ) → result ≡ Err (Damaged n) → Told d0 (λ _. ⊥))
    → (answered : Result (Unit {0}) Stop) (reply : List ℕ) → IsAnswer (run_stop result) (run_reply result) answered reply
    → CarriesStore (plainly s (ChangeLabels a)) s answered reply later d0 d1
run_carries a d0 d1 s rows later stands (Ok n) runs fault damaged answered reply answer =
    subst (λ r. CarriesStore (plainly s (ChangeLabels a)) s r reply later d0 d1) (sym answer.stop)
    (renewed a d0 d1 s rows later stands (Ok n) runs n reply refl
    (subst (λ r. OnOk r (reply ≡ spelled (run_reply (Ok n)))) answer.stop answer.reply))
run_carries a d0 d1 s rows later stands (Err why) runs fault damaged answered reply answer =
    ⊎_elim
    (λ disk. subst (λ r. CarriesStore (plainly s (ChangeLabels a)) s r reply later d0 d1)
    (sym (answer.stop ∙ ap (λ f. run_stop (Err f)) disk)) (ended a d0 d1 s rows later stands (Err why) runs reply))
    (λ at. absurd (told_at d0.content (λ _. ⊥) stands.in_store.image stands.in_store.told (damaged at.0 (ap Err at.2))))
    fault

pub run_left : {D : Type 0} {medium : D → Medium} {faults : D → ℕ} {lease later : Lease} {rows next : List (Option Row)} {old new : D}
    → (medium old).size ≡ 1572864 → (result : Result ℕ RecordFault) → LeavesAnyStore {T = ℕ} medium faults (IsLabelCell rows) lease later rows next old new result
    → OnOk result (Becomes (Turned 1024) (medium old) (medium new))
    → (answered : Result (Unit {0}) Stop) (reply : List ℕ) → IsAnswer (run_stop result) (run_reply result) answered reply
    → LeavesStore (medium old) (medium new) (faults old) (faults new) answered reply rows next
run_left {medium = medium} {faults = faults} {rows = rows} {next = next} {old = old} {new = new} size (Ok n) left turned answered reply answer =
    subst (λ r. LeavesStore (medium old) (medium new) (faults old) (faults new) r reply rows next) (sym answer.stop)
    (renewed_left size n (reply_line (run_reply (Ok n)) reply (subst (λ r. OnOk r (reply ≡ spelled (run_reply (Ok n)))) answer.stop answer.reply)) left turned)
run_left {medium = medium} {faults = faults} {rows = rows} {next = next} {old = old} {new = new} size (Err why) left turned answered reply answer =
    subst (λ r. LeavesStore (medium old) (medium new) (faults old) (faults new) r reply rows next) (sym answer.stop)
    (ended_left size why (read_stop why) left refl (subst (λ r. OnErr r (reply ≡ [])) answer.stop answer.silent))

-- a damaged cell on its way holds a label
pub run_damaged : {rows : List (Option Row)} (result : Result ℕ RecordFault) → IfErr result (IsRunFault rows) → (n : ℕ) → result ≡ Err (Damaged n)
    → IsLabelCell rows n
run_damaged (Ok k) fault n is = cc is
run_damaged {rows} (Err why) fault n is =
    let named : why ≡ Damaged n = cc is in
    ⊎_elim
    (λ disk. let no : DiskFault ≡ Damaged n = sym disk ∙ named in cc no)
    (λ at. let same : at.0 ≡ n = cc (at.2, named) in subst (IsLabelCell rows) same at.1)
    fault

cell_of_run : {rows : List (Option Row)} (outcome : Result ℕ RecordFault) (n : ℕ) → ((k : ℕ) → outcome ≡ Err (Damaged k) → IsLabelCell rows k)
    → run_stop outcome ≡ Err (stop.Damaged Store n) → IsLabelCell rows n
cell_of_run (Ok k) n cell is = cc is
cell_of_run (Err DiskFault) n cell is = cc is
cell_of_run (Err (Damaged k)) n cell is = let same : k ≡ n = cc is in subst (IsLabelCell _) same (cell k refl)
cell_of_run (Err Full) n cell is = cc is
cell_of_run (Err Exists) n cell is = cc is

-- and so does one that is told
pub run_cell : {a : StoreAction} {held : Registers} {rows later : List (Option Row)} {d0 d1 : Medium} {result : Result (Unit {0}) Stop} {reply : List ℕ}
    → RunsThrough a held rows later d0 d1 result reply → (n : ℕ) → result ≡ Err (stop.Damaged Store n) → IsLabelCell rows n
run_cell runs n is = cell_of_run runs.outcome n runs.cell (sym runs.answer.stop ∙ is)

-- of an effect that is known
pub runs_as : (held : Registers) (rows later : List (Option Row)) (d0 d1 : Medium) (result : Result (Unit {0}) Stop) (reply : List ℕ) {e known : Effect} → e ≡ known
    → RunsEffect known held rows later d0 d1 result reply → RunsEffect e held rows later d0 d1 result reply
runs_as held rows later d0 d1 result reply is runs = subst (λ (x : Effect). RunsEffect x held rows later d0 d1 result reply) (sym is) runs
