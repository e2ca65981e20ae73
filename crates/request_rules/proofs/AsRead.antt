-- What is answered of the labels that are held, by what was read of their records.
use Rattle.std.proofs.Common.{◌≡◌, ◌∙◌, ℕ, Bool, true, false, List, [], ◌∷◌, Option, None, Some, Result, Ok, Err, refl, sym, ap, subst, inl, inr}
use Rattle.std.specs.Prelude.{get_or, is_none, not, IfOk, IfSome, IsTrue, OnOk}
use Rattle.cca_vectors.specs.Checks.{check, first_failing}
use Rattle.key_cells.specs.Bench.{Bench}
use Rattle.key_cells.specs.Lease.{bench_of}
use Rattle.key_cells.specs.declared.leases.Lease.{Lease}
use Rattle.key_records.specs.Changes.{KeepsAllButBody}
use Rattle.record_bodies.specs.Directory.{cell_of}
use Rattle.record_bodies.specs.Entries.{row_directory}
use Rattle.record_bodies.specs.Labels.{is_label}
use Rattle.record_bodies.specs.declared.rows.Row.{Row}
use Rattle.key_tokens.specs.Denotes.{Denoted}
use Rattle.line_service.specs.declared.stops.Stop.{Stop}
use Rattle.master_registers.specs.Masters.{Masters}
use Rattle.master_registers.specs.RegisterBody.{StandsForMasters}
use Rattle.line_service.specs.Replies.{Refused, spelled}
use Rattle.device_cells.specs.Medium.{Keeps, Medium}
use Rattle.store_move.specs.Stored.{IsStored, stored_checks}
use Rattle.verb_rules.specs.Keys.{keys_of}
use Rattle.verb_rules.specs.Rules.{rule_number}
use Rattle.verb_rules.specs.declared.judging.Judged.{Judged}
use Rattle.verb_rules.specs.declared.needs.Need.{Need}
use Rattle.verb_rules.specs.declared.rules.Rule.{Rule}
use Rattle.verb_script.specs.Grammar.{Request}
use Rattle.verb_script.specs.Named.{label_named}
use Rattle.cca_machine.specs.Operands.{Operand, Operands, any_key, listed, operands}
use Rattle.cca_machine.specs.declared.asking.Ask.{Ask}
use Rattle.cca_machine.specs.declared.asking.Ask.TheVariants.{AnyToken, External, Held, Key, NewLabel, Nothing, Record, Target, Token}
use Rattle.request_rules.specs.ByRecords.{AreJudgedByRecords, BreaksByRecord, IfKeyOfLabel, IsHeldIn, LabelBreaks, RestsOnRecords}
use Rattle.cca_machine.specs.Granted.{answered}
use Rattle.request_rules.specs.Standing.{Tables}
use Rattle.request_rules.specs.Stored.{AreAskedAsRead, IsAnsweredAsRead, IsAskedAsRead, IsLabelAsRead, IsRefusedAsRead, find_checks}
use Rattle.cca_machine.specs.declared.granted.Grant.{Grant}
use Rattle.cca_machine.specs.declared.granted.Granted.{Granted}
use Rattle.request_rules.specs.declared.judging.Verdict.{Verdict}
use Rattle.request_rules.specs.declared.judging.Verdict.TheVariants as verdict
use Rattle.cca_machine.specs.declared.refusals.Refusal.{Refusal}

-- ---- a label that is held breaks neither rule of labels

passes_both : (b : Bool) (o : Option ℕ) (cell : ℕ) → IsTrue b → o ≡ Some cell → first_failing (check 6 (not b) ∷ check 7 (is_none o) ∷ []) ≡ None
passes_both true (Some n) cell is some = refl
passes_both true None cell is some = cc some
passes_both false o cell is some = cc is

pub held_passes : (rows : List (Option Row)) (label : List ℕ) (cell : ℕ) → IsHeldIn rows label cell → first_failing (find_checks rows label) ≡ None
held_passes rows label cell held = passes_both (is_label label) (cell_of label (row_directory rows)) cell held.label_is held.is

-- ---- one operand

module _ (P Q : Need → List ℕ → Type 0) (weaker : (need : Need) (label : List ℕ) → P need label → Q need label) where
  named_weaker : (need : Need) (o : Option (List ℕ)) → IfSome o (P need) → IfSome o (Q need)
  named_weaker need None has = tt
  named_weaker need (Some label) has = weaker need label has

  asked_weaker : (text : List ℕ) (ask : Ask) → IfKeyOfLabel P text ask → IfKeyOfLabel Q text ask
  asked_weaker text AnyToken has = tt
  asked_weaker text (Key need) has = named_weaker need (label_named text) has
  asked_weaker text (Token need) has = tt
  asked_weaker text (External need) has = tt
  asked_weaker text Record has = weaker any_key text has
  asked_weaker text Held has = tt
  asked_weaker text NewLabel has = tt
  asked_weaker text Target has = tt
  asked_weaker text Nothing has = tt

module _ (m : Masters) (bench : Bench) (rows : List (Option Row)) where
  -- what was read of the record of a label
  label_as_read : (need : Need) (label bytes : List ℕ) (r : Result (Result Grant Rule) Stop)
      → ((cell : ℕ) → IsHeldIn rows label cell → IfOk r (IsAnsweredAsRead m bench need (get_or rows cell None) bytes))
      → IfOk r (λ given. IsLabelAsRead m bench rows given need label)
  label_as_read need label bytes (Ok given) says = λ cell held. (bytes, says cell held)
  label_as_read need label bytes (Err stop) says = tt

  pub named_as_read : (text label bytes : List ℕ) (ask : Ask) (need : Need) (r : Result (Result Grant Rule) Stop) → ask ≡ Key need → label_named text ≡ Some label
      → ((cell : ℕ) → IsHeldIn rows label cell → IfOk r (IsAnsweredAsRead m bench need (get_or rows cell None) bytes))
      → IfOk r (IsAskedAsRead m bench rows text ask)
  named_as_read text label bytes ask need (Err stop) is named says = tt
  named_as_read text label bytes ask need (Ok given) is named says =
      subst (λ (a : Ask). IsAskedAsRead m bench rows text a given) (sym is)
      (subst (λ (o : Option (List ℕ)). IfSome o (IsLabelAsRead m bench rows given need)) (sym named) (label_as_read need label bytes (Ok given) says))

  pub record_as_read : (text bytes : List ℕ) (ask : Ask) (need : Need) (r : Result (Result Grant Rule) Stop) → ask ≡ Record → need ≡ any_key
      → ((cell : ℕ) → IsHeldIn rows text cell → IfOk r (IsAnsweredAsRead m bench need (get_or rows cell None) bytes))
      → IfOk r (IsAskedAsRead m bench rows text ask)
  record_as_read text bytes ask need (Err stop) is any says = tt
  record_as_read text bytes ask need (Ok given) is any says =
      subst (λ (a : Ask). IsAskedAsRead m bench rows text a given) (sym is)
      (subst (λ (n : Need). IsLabelAsRead m bench rows given n text) any (label_as_read need text bytes (Ok given) says))

  pub unnamed_as_read : (text : List ℕ) (ask : Ask) (need : Need) (given : Result Grant Rule) → ask ≡ Key need → label_named text ≡ None
      → IsAskedAsRead m bench rows text ask given
  unnamed_as_read text ask need given is none =
      subst (λ (a : Ask). IsAskedAsRead m bench rows text a given) (sym is)
      (subst (λ (o : Option (List ℕ)). IfSome o (IsLabelAsRead m bench rows given need)) (sym none) tt)

-- ---- from a later bench, which differs in its body alone

abbrev with_body : Bench → List ℕ → Bench
with_body bench bytes = record bench { body = bytes }

stored_before : (bench : Bench) (b : List ℕ) (need : Need) (what : Option Denoted) (r : Result Judged Rule) → IsStored (with_body bench b) need what r
    → IsStored bench need what r
stored_before bench b need what (Ok judged) stored = stored
stored_before bench b need what (Err _) stored = stored

answered_before : (m : Masters) (bench : Bench) (b : List ℕ) (need : Need) (row : Option Row) (bytes : List ℕ) (given : Result Grant Rule)
    → IsAnsweredAsRead m (with_body bench b) need row bytes given → IsAnsweredAsRead m bench need row bytes given
answered_before m bench b need row bytes given as_read = record {
  what = as_read.what;
  holds = as_read.holds;
  judged = as_read.judged;
  stored = stored_before bench b need as_read.what as_read.judged as_read.stored;
  is = as_read.is;
}

pub as_read_before : (m : Masters) (rows : List (Option Row)) (old new : Lease) → KeepsAllButBody old new → (text : List ℕ) (ask : Ask) (given : Result Grant Rule)
    → IsAskedAsRead m (bench_of new) rows text ask given → IsAskedAsRead m (bench_of old) rows text ask given
as_read_before m rows old new keeps text ask given as_read =
    let bench = bench_of old in
    let body = (bench_of new).body in
    asked_weaker (IsLabelAsRead m (with_body bench body) rows given) (IsLabelAsRead m bench rows given)
    (λ need label says. λ cell held.
    let one = says cell held in
    (one.0, answered_before m bench body need (get_or rows cell None) one.0 given one.1))
    text ask (subst (λ (l : Lease). IsAskedAsRead m (bench_of l) rows text ask given) keeps as_read)

-- ---- the rule that an answer names

abbrev broken_by : Result Grant Rule → Option ℕ
broken_by (Err rule) = Some (rule_number rule)
broken_by (Ok grant) = None

broken_key : (bench : Bench) (need : Need) (what : Option Denoted) (r : Result Judged Rule) (given : Result Grant Rule) → IsStored bench need what r → given ≡ answered r
    → broken_by given ≡ first_failing (stored_checks need what)
broken_key bench need what (Ok judged) given stored is = ap broken_by is ∙ sym stored.0
broken_key bench need what (Err _) given stored is = ap broken_by is ∙ sym stored

broken_record : (m : Masters) (bench : Bench) (need : Need) (row : Option Row) (bytes : List ℕ) (given : Result Grant Rule) → IsAnsweredAsRead m bench need row bytes given
    → BreaksByRecord (keys_of m) need row (broken_by given)
broken_record m bench need row bytes given as_read = record {
  body = bytes;
  what = as_read.what;
  holds = as_read.holds;
  breaks = broken_key bench need as_read.what as_read.judged given as_read.stored as_read.is;
}

module _ (m : Masters) (bench : Bench) (rows : List (Option Row)) (reply : List ℕ) where
  broken_operand : (text : List ℕ) (ask : Ask) (given : Result Grant Rule) → IsAskedAsRead m bench rows text ask given
      → IfKeyOfLabel (LabelBreaks (keys_of m) rows (broken_by given)) text ask
  broken_operand text ask given as_read =
      asked_weaker (IsLabelAsRead m bench rows given) (LabelBreaks (keys_of m) rows (broken_by given))
      (λ need label says. λ cell held. broken_record m bench need (get_or rows cell None) (says cell held).0 given (says cell held).1)
      text ask as_read

  -- the reply is the refusal of one of the operands
  pub refused_by_record : (os : List Operand) (r : Refusal) → IsRefusedAsRead m bench rows os r
      → reply ≡ spelled (Refused (rule_number r.rule) r.operand.now) → AreJudgedByRecords (keys_of m) rows os reply
  refused_by_record [] r refused is = absurd refused
  refused_by_record (o ∷ os) r (inl here) is = (
    Some (rule_number r.rule),
    broken_operand o.text o.ask (Err r.rule) here.1,
    is ∙ ap (λ (n : List ℕ). spelled (Refused (rule_number r.rule) n)) here.0,
  )
  refused_by_record (o ∷ os) r (inr later) is = (
    None,
    broken_operand o.text o.ask (Ok later.0) later.1,
    refused_by_record os r later.2 is,
  )

  -- or none is refused
  pub granted_by_records : (os : Operands) (g : Granted) → AreAskedAsRead m bench rows os (verdict.Granted g)
      → AreJudgedByRecords (keys_of m) rows (listed os) reply
  granted_by_records os g granted = (
    None,
    broken_operand os.first.text os.first.ask (Ok g.first) granted.0,
    (
      None,
      broken_operand os.second.text os.second.ask (Ok g.second) granted.1,
      (None, broken_operand os.third.text os.third.ask (Ok g.third) granted.2, tt),
    ),
  )

-- the same of what was judged of a request
module _ (m : Masters) (bench : Bench) (rows : List (Option Row)) (request : Request) (reply : List ℕ) where
  module _ {os : Operands} {judged : Verdict} where
    pub refusal_by_record : (r : Refusal) → os ≡ operands request → AreAskedAsRead m bench rows os judged
        → judged ≡ verdict.Refused r → reply ≡ spelled (Refused (rule_number r.rule) r.operand.now)
        → AreJudgedByRecords (keys_of m) rows (listed (operands request)) reply
    refusal_by_record r table as_read is told =
        refused_by_record m bench rows reply (listed (operands request)) r
        (subst (λ (v : Verdict). AreAskedAsRead m bench rows (operands request) v) is
        (subst (λ (o : Operands). AreAskedAsRead m bench rows o judged) table as_read))
        told

    pub grants_by_records : (g : Granted) → os ≡ operands request → AreAskedAsRead m bench rows os judged → judged ≡ verdict.Granted g
        → AreJudgedByRecords (keys_of m) rows (listed (operands request)) reply
    grants_by_records g table as_read is =
        granted_by_records m bench rows reply (operands request) g
        (subst (λ (v : Verdict). AreAskedAsRead m bench rows (operands request) v) is
        (subst (λ (o : Operands). AreAskedAsRead m bench rows o judged) table as_read))

-- ---- what a reply rests on

pub on_ok_always : (r : Result (Unit {0}) Stop) (P : Type 0) → P → OnOk r P
on_ok_always (Ok u) P holds = holds
on_ok_always (Err stop) P holds = tt

-- a module that was only read
pub rests_before : (r : Result (Unit {0}) Stop) (m0 m1 : Medium) (t : Tables) (request : Request) (reply : List ℕ) → Keeps m0 m1
    → OnOk r (RestsOnRecords m1 t request reply) → OnOk r (RestsOnRecords m0 t request reply)
rests_before (Err stop) m0 m1 t request reply keeps rests = tt
rests_before (Ok u) m0 m1 t request reply keeps rests = record {
  registers = rests.registers;
  in_module = subst (λ (o : Option (List ℕ)). IfSome o (λ image. StandsForMasters image rests.registers)) keeps.content rests.in_module;
  general = rests.general;
  as_whole = rests.as_whole;
  judged = rests.judged;
}
