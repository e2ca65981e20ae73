-- What a request leaves of the memory, by what its verb left to be carried out.
use Rattle.std.proofs.Common.{◌≡◌, ◌++◌, ℕ, List, [], ◌∷◌, Option, Result, Ok, Err, codes, get_or, refl, sym, ap, subst, inl, inr, ⊎_elim, ◌∙◌, append_assoc, arith}
use Rattle.std.specs.Prelude.{IsTrue, OnOk}
use Rattle.cca_roles.specs.Changes.{Remembers as RemembersRoles}
use Rattle.cca_roles.specs.declared.faults.RoleFault.{RoleFault}
use Rattle.cca_roles.specs.declared.faults.RoleFault.TheVariants as role
use Rattle.cca_roles.specs.declared.roles.Role.{Role}
use Rattle.device_cells.specs.Medium.{Medium}
use Rattle.key_records.specs.Changes.{Remembers}
use Rattle.key_records.specs.declared.faults.RecordFault.{RecordFault}
use Rattle.key_records.specs.declared.faults.RecordFault.TheVariants as record_fault
use Rattle.record_bodies.specs.declared.actions.StoreAction.{StoreAction}
use Rattle.record_bodies.specs.declared.rows.Row.{Row}
use Rattle.master_registers.specs.declared.actions.Action.{Action}
use Rattle.master_registers.specs.declared.faults.RegisterFault.{RegisterFault}
use Rattle.master_registers.specs.declared.faults.RegisterFault.TheVariants as register_fault
use Rattle.master_registers.specs.declared.registers.Registers.{Registers}
use Rattle.line_service.specs.Lines.{newline}
use Rattle.line_service.specs.Replies.{Done, Field, Number, Refused, Reply, fields_text, ok_text, refusal, spelled}
use Rattle.line_service.specs.declared.stops.Stop.{Stop}
use Rattle.verb_script.specs.Grammar.{Request}
use Rattle.cca_machine.specs.Deciding.{GoesThrough, WritesStore}
use Rattle.cca_machine.specs.Operands.{is_reencipher, needs_store}
use Rattle.cca_machine.specs.declared.effects.Effect.{Effect}
use Rattle.cca_machine.specs.declared.effects.Effect.TheVariants as code
use Rattle.cca_machine.specs.declared.refusals.Refusal.{Refusal}
use Rattle.request_rules.specs.Standing.{Tables}
use Rattle.request_rules.specs.Stored.{read_stop}
use Rattle.cca_requests.specs.Changes.{IsAnswer, RunsThrough, change_reply, change_stop, record_reply, record_stop, role_reply, role_stop, rows_after, rows_by, run_reply, run_stop}
use Rattle.cca_requests.specs.Memory.{ChangesMemory, IsRefusal, MemoryBy, RefusedOr, SaysDone}

-- ---- replies

pub done_says : (fields : List Field) (reply : List ℕ) → reply ≡ spelled (Done fields) → SaysDone reply
done_says fields reply is = record { rest = fields_text fields ++ newline ∷ []; is = is ∙ append_assoc ok_text (fields_text fields) (newline ∷ []) }

-- no reply is both
pub says_no_refusal : (reply : List ℕ) → SaysDone reply → IsRefusal reply → ⊥
unfolding ok_text refusal
says_no_refusal reply done refused =
    let both : ok_text ++ done.rest ≡ spelled (Refused refused.rule refused.operand) = sym done.is ∙ refused.is in
    let first : ◌≡◌ {A = ℕ} 79 78 = ap (λ (l : List ℕ). get_or l 0 0) both in
    absurd (omega arith)

module _ (P : Type 0) (result : Result (Unit {0}) Stop) (reply : List ℕ) where
  answered : (what : Reply) → IsAnswer (Ok tt) what result reply → (reply ≡ spelled what → P) → OnOk result P
  answered what answer gives = by_case result answer.reply
    where
      by_case : (r : Result (Unit {0}) Stop) → OnOk r (reply ≡ spelled what) → OnOk r P
      by_case (Ok u) is = gives is
      by_case (Err stop) is = tt

  stopped : (stop : Stop) (what : Reply) → IsAnswer (Err stop) what result reply → OnOk result P
  stopped stop what answer = subst (λ (r : Result (Unit {0}) Stop). OnOk r P) (sym answer.stop) tt

  pub ok_gives : (Q : Type 0) → OnOk result Q → (Q → P) → OnOk result P
  ok_gives Q has gives = by_case result has
    where
      by_case : (r : Result (Unit {0}) Stop) → OnOk r Q → OnOk r P
      by_case (Ok u) q = gives q
      by_case (Err stop) q = tt

-- ---- changes, by how they came out

module _ (result : Result (Unit {0}) Stop) (reply : List ℕ) where
  is_refused : (Before After : Type 0) (rule : ℕ) (operand : List ℕ) → Before → IsAnswer (Ok tt) (Refused rule operand) result reply → OnOk result (RefusedOr reply Before After)
  is_refused Before After rule operand before answer = answered (RefusedOr reply Before After) result reply (Refused rule operand) answer (λ is. inl (record { rule = rule; operand = operand; is = is }, before))

  is_done : (Before After : Type 0) (fields : List Field) → After → IsAnswer (Ok tt) (Done fields) result reply → OnOk result (RefusedOr reply Before After)
  is_done Before After fields after answer = answered (RefusedOr reply Before After) result reply (Done fields) answer (λ is. inr (done_says fields reply is, after))

  pub change_own : (action : Action) (rows : List (Option Row)) (outcome : Result Registers RegisterFault) → IsAnswer (change_stop outcome) (change_reply outcome) result reply
      → OnOk result (RefusedOr reply (rows_by outcome action rows ≡ rows) (rows_by outcome action rows ≡ rows_after action rows))
  change_own action rows (Ok held) answer = is_done (rows_after action rows ≡ rows) (rows_after action rows ≡ rows_after action rows) _ refl answer
  change_own action rows (Err register_fault.DiskFault) answer = stopped (RefusedOr reply (rows ≡ rows) (rows ≡ rows_after action rows)) result reply _ _ answer
  change_own action rows (Err register_fault.RegisterState) answer = is_refused (rows ≡ rows) (rows ≡ rows_after action rows) 25 (codes "-") refl answer
  change_own action rows (Err register_fault.SamePattern) answer = is_refused (rows ≡ rows) (rows ≡ rows_after action rows) 26 (codes "-") refl answer

  pub role_own : (before after now : List (Option Role)) (outcome : Result (Unit {0}) RoleFault) → RemembersRoles before after now outcome
      → IsAnswer (role_stop outcome) (role_reply outcome) result reply → OnOk result (RefusedOr reply (now ≡ before) (now ≡ after))
  role_own before after now (Ok done) memory answer = is_done (now ≡ before) (now ≡ after) [] memory.done answer
  role_own before after now (Err role.DiskFault) memory answer = stopped (RefusedOr reply (now ≡ before) (now ≡ after)) result reply _ _ answer
  role_own before after now (Err (role.Damaged cell)) memory answer = stopped (RefusedOr reply (now ≡ before) (now ≡ after)) result reply _ _ answer
  role_own before after now (Err role.TableFull) memory answer = is_refused (now ≡ before) (now ≡ after) 30 (codes "name") memory.kept answer
  role_own before after now (Err role.Unknown) memory answer = is_refused (now ≡ before) (now ≡ after) 30 (codes "name") memory.kept answer

  pub record_own : (before after now : List (Option Row)) (outcome : Result (Unit {0}) RecordFault) → Remembers before after now outcome
      → IsAnswer (record_stop outcome) (record_reply outcome) result reply → OnOk result (RefusedOr reply (now ≡ before) (now ≡ after))
  record_own before after now (Ok done) memory answer = is_done (now ≡ before) (now ≡ after) [] memory.done answer
  record_own before after now (Err record_fault.DiskFault) memory answer = stopped (RefusedOr reply (now ≡ before) (now ≡ after)) result reply _ _ answer
  record_own before after now (Err (record_fault.Damaged cell)) memory answer = stopped (RefusedOr reply (now ≡ before) (now ≡ after)) result reply _ _ answer
  record_own before after now (Err record_fault.Full) memory answer = is_refused (now ≡ before) (now ≡ after) 28 (codes "label") memory.kept answer
  record_own before after now (Err record_fault.Exists) memory answer = is_refused (now ≡ before) (now ≡ after) 29 (codes "label") memory.kept answer

  -- and of one of both tables
  pub weaker_or : (P Q R S : Type 0) → (P → R) → (Q → S) → OnOk result (RefusedOr reply P Q) → OnOk result (RefusedOr reply R S)
  weaker_or P Q R S before after has = ok_gives (RefusedOr reply R S) result reply (RefusedOr reply P Q) has (λ or. ⊎_elim (λ no. inl (no.0, before no.1)) (λ yes. inr (yes.0, after yes.1)) or)

  pub run_says : {a : StoreAction} {held : Registers} {rows later : List (Option Row)} {d0 d1 : Medium} → RunsThrough a held rows later d0 d1 result reply → OnOk result (SaysDone reply)
  run_says runs = by_case runs.outcome runs.answer
    where
      by_case : (outcome : Result ℕ RecordFault) → IsAnswer (run_stop outcome) (run_reply outcome) result reply → OnOk result (SaysDone reply)
      by_case (Ok n) answer = answered (SaysDone reply) result reply (run_reply (Ok n)) answer (done_says (Number (codes "changed") n ∷ []) reply)
      by_case (Err why) answer = stopped (SaysDone reply) result reply (read_stop why) (run_reply (Err why)) answer

-- of an effect that is known
pub memory_as : (result : Result (Unit {0}) Stop) (reply : List ℕ) (t later : Tables) {e known : Effect} → e ≡ known → OnOk result (MemoryBy known reply t later)
    → OnOk result (MemoryBy e reply t later)
memory_as result reply t later is memory = subst (λ (x : Effect). OnOk result (MemoryBy x reply t later)) (sym is) memory

-- ---- a request

-- after a refusal the roles are as before
roles_kept : (e : Effect) (reply : List ℕ) (t later : Tables) → MemoryBy e reply t later → IsRefusal reply → later.roles ≡ t.roles
roles_kept (code.Refused r) reply t later memory refused = memory.1.0
roles_kept code.Shown reply t later memory refused = memory.0
roles_kept (code.Change action) reply t later memory refused = ⊎_elim (λ no. no.1.0) (λ yes. yes.1.0) memory
roles_kept (code.DefineRole name points) reply t later memory refused = ⊎_elim (λ no. no.1.0) (λ yes. absurd (says_no_refusal reply yes.0 refused)) memory
roles_kept (code.RemoveRole name) reply t later memory refused = ⊎_elim (λ no. no.1.0) (λ yes. absurd (says_no_refusal reply yes.0 refused)) memory
roles_kept (code.Create label) reply t later memory refused = ⊎_elim (λ no. no.1.0) (λ yes. yes.1.0) memory
roles_kept (code.Write place token) reply t later memory refused = memory.0
roles_kept (code.Delete place) reply t later memory refused = memory.1.0
roles_kept (code.Reencipher a) reply t later memory refused = memory.1

pub memory_left : (e : Effect) {request : Request} {reply : List ℕ} {t later : Tables} → (WritesStore e → IsTrue (needs_store request))
    → (GoesThrough e → IsTrue (is_reencipher request.name)) → MemoryBy e reply t later → ChangesMemory request reply t later
memory_left e {request} {reply} {t} {later} named through memory =
    record { effect = e; by = memory; named = named; through = through; refused = roles_kept e reply t later memory }

-- a request that a rule refuses
pub refused_memory : {request : Request} {reply : List ℕ} {t : Tables} (r : Refusal) → IsRefusal reply → ChangesMemory request reply t t
refused_memory r is = record {
  effect = code.Refused r;
  by = (is, (refl, refl));
  named = λ writes. absurd writes;
  through = λ through. absurd through;
  refused = λ again. refl;
}
