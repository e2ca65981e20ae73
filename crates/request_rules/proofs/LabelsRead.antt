-- The key that is read of a label's record is the machine's.
use Rattle.std.proofs.Common.{◌≡◌, ◌∙◌, ℕ, List, [], ◌∷◌, ◌++◌, drop, Option, None, Some, inl, inr, refl, sym, ap, subst}
use Rattle.std.specs.Prelude.{◌⊎◌, if◌then◌else◌, is_none, option_map, IfErr, IfOk, IfSome, IsSome, OnOk, IsTrue, Result, Ok, Err, slice_index}
use Rattle.std.proofs.lemmas.Bool.{eqb-true}
use Rattle.cca_vectors.specs.Checks.{Check, check, first_failing}
use Rattle.cca_vectors.proofs.Judging.{none_in_first, passed_over, passes_first, stopped_in}
use Rattle.key_cells.specs.Bench.{Bench}
use Rattle.key_cells.specs.Lease.{bench_of}
use Rattle.key_cells.specs.declared.leases.Lease.{Lease}
use Rattle.key_records.specs.Changes.{KeepsAllButBody}
use Rattle.record_bodies.specs.StoreStands.{Agrees, KeepsLabels, entry_at}
use Rattle.key_records.specs.declared.faults.RecordFault.{RecordFault}
use Rattle.key_records.specs.declared.faults.RecordFault.TheVariants.{Damaged, DiskFault}
use Rattle.record_bodies.specs.declared.rows.Row.{Row}
use Rattle.key_tokens.specs.Denotes.{Denoted, denoted, denoted_under}
use Rattle.key_tokens.specs.Fields.{kind_of, pattern_of_token, token_of}
use Rattle.key_tokens.specs.Kinds.{is_asked, kind_at}
use Rattle.key_tokens.specs.TokenChecks.{rule_of, token_checks}
use Rattle.key_tokens.specs.declared.key_token.Asked.TheVariants as asked
use Rattle.key_tokens.specs.declared.key_token.Kind.TheVariants as kind
use Rattle.key_tokens.specs.declared.key_token.Token.{Token as ReadToken}
use Rattle.key_tokens.specs.declared.key_token.TokenFault.{TokenFault}
use Rattle.line_service.specs.declared.stops.Stop.TheVariants.{StoreFault}
use Rattle.master_registers.specs.Loaded.{Loaded, registers_of}
use Rattle.master_registers.specs.Masters.{Masters}
use Rattle.master_registers.specs.declared.registers.Registers.{Registers}
use Rattle.device_cells.specs.Medium.{Keeps, Medium, Told}
use Rattle.device_cells.proofs.Media.{told_at}
use Rattle.store_move.specs.Stored.{IsStored, stored_checks}
use Rattle.verb_rules.specs.Classes.{has}
use Rattle.verb_rules.specs.KeyChecks.{age_in, age_of, key_checks, read_checks, use_checks}
use Rattle.verb_rules.specs.Keys.{HasHalves, IsDouble, keys_of, opened_key, opened_under}
use Rattle.verb_rules.specs.Rules.{Judges, rule_number}
use Rattle.verb_rules.specs.declared.judging.Judged.{Judged}
use Rattle.verb_rules.specs.declared.needs.Need.{Need}
use Rattle.verb_rules.specs.declared.rules.Rule.{Rule}
use Rattle.verb_rules.proofs.NeedLemmas.{any_use}
use Rattle.cca_machine.specs.Keys.{key_in_text, key_named, key_of_label, key_of_token, or_no_key, what_at, what_in}
use Rattle.cca_machine.specs.Operands.{Operands, any_key}
use Rattle.cca_machine.specs.State.{State}
use Rattle.cca_machine.specs.Verdict.{held_checks, key_questions, label_check, record_checks, target_checks}
use Rattle.cca_machine.specs.declared.asking.Ask.{Ask}
use Rattle.cca_machine.specs.declared.asking.Ask.TheVariants.{AnyToken, External, Held, Key, NewLabel, Nothing, Record, Target, Token}
use Rattle.cca_machine.proofs.KnownLabels.{cell_is}
use Rattle.verb_script.specs.Named.{label_named}
use Rattle.verb_script.specs.Values.{hex_value}
use Rattle.request_rules.specs.Standing.{AtStore}
use Rattle.cca_machine.specs.Granted.{HasKey, IsGranted, answered, target_cell}
use Rattle.request_rules.specs.Judging.{IsAsked, IsJudged, IsKeyedAnswer, IsShaped}
use Rattle.request_rules.specs.Stored.{IsFound, IsLabelAsked, find_checks, label_key_checks, read_stop}
use Rattle.cca_machine.specs.declared.granted.Grant.{Grant}
use Rattle.cca_machine.specs.declared.granted.Granted.{Granted}
use Rattle.request_rules.specs.declared.judging.Verdict.TheVariants as verdict

-- ---- the labels that the memory knows are those of the state

module _ (s : State) (rows : List (Option Row)) (agrees : Agrees (keys_of s.registers) rows s.labels) (label : List ℕ) where
  pub find_is : first_failing (held_checks s label) ≡ first_failing (find_checks rows label)
  find_is = ap (λ (o : Option ℕ). first_failing (label_check label ∷ check 7 (is_none o) ∷ [])) (cell_is s rows agrees label)

-- ---- what a state says of a store that is read

module _ (s : State) (held : Registers) (bench : Bench) (rows : List (Option Row)) (m : Medium) (at : AtStore s held bench rows m) where
  told_labels : Told m (KeepsLabels (keys_of s.registers) rows s.labels)
  told_labels =
      subst (λ (o : Option (List ℕ)). IfSome o (KeepsLabels (keys_of s.registers) rows s.labels)) (sym at.stands.in_store.told)
      (record { stands = at.stands.in_store.has; agrees = at.stands.agrees })

  -- what holds wherever the store tells that it keeps these labels
  pub in_store : (P : Type 0) → (Told m (KeepsLabels (keys_of s.registers) rows s.labels) → Told m (λ _. P)) → P
  in_store P gives = told_at m.content (λ _. P) at.stands.in_store.image at.stands.in_store.told (gives told_labels)

-- why a record wasn't read, where it isn't damaged
pub store_failed : (fault : RecordFault) (cell : ℕ) → (fault ≡ DiskFault) ⊎ (fault ≡ Damaged cell) → ((n : ℕ) → fault ≡ Damaged n → ⊥)
    → read_stop fault ≡ StoreFault
store_failed fault cell (inl failed) sound = ap read_stop failed
store_failed fault cell (inr damaged) sound = absurd (sound cell damaged)

-- ---- a label whose key is asked for

module _ (s : State) (rows : List (Option Row)) (agrees : Agrees (keys_of s.registers) rows s.labels) (label : List ℕ) (need : Need) where
  abbrev after_found : Option Denoted → List Check
  after_found key = check 8 (is_none key) ∷ use_checks need (or_no_key key).clear.vector

  pub not_found : (n : ℕ) → first_failing (find_checks rows label) ≡ Some n → first_failing (label_key_checks s need label) ≡ Some n
  not_found n fails = stopped_in (held_checks s label) (after_found (key_of_label s label)) n (find_is s rows agrees label ∙ fails)

  same_checks : (key : Option Denoted) → first_failing (after_found key) ≡ first_failing (stored_checks need key)
  same_checks None = refl
  same_checks (Some key) = refl

  module _ (place : ℕ) (found : IsFound rows label place) where
    what_is : key_of_label s label ≡ what_in (entry_at s.labels place)
    what_is = ap (what_at s.labels) (cell_is s rows agrees label ∙ found.is)

    label_checks : first_failing (label_key_checks s need label) ≡ first_failing (stored_checks need (what_in (entry_at s.labels place)))
    label_checks =
        passed_over (held_checks s label) (after_found (key_of_label s label)) (find_is s rows agrees label ∙ found.passes)
        ∙ same_checks (key_of_label s label)
        ∙ ap (λ (o : Option Denoted). first_failing (stored_checks need o)) what_is

    pub stored_asked : (bench : Bench) (held : Registers) (r : Result Judged Rule) → Loaded s.registers held bench
        → IsStored bench need (what_in (entry_at s.labels place)) r → IfOk r (λ judged. judged.age ≡ age_of held judged.token) → IsLabelAsked s bench need label (answered r)
    stored_asked bench held (Err _) loaded stored age = label_checks ∙ stored
    stored_asked bench held (Ok judged) loaded stored age = (
      label_checks ∙ stored.0,
      record {
        has = record { judged = judged; is = refl; key_is = what_is ∙ sym stored.1 };
        age = age ∙ ap (λ (h : Registers). age_of h judged.token) loaded.told;
      },
    )

-- ---- what is answered of a key that was judged

-- what is certain of it in every state
pub judged_shape : (need : Need) (r : Result Judged Rule) → IfOk r HasHalves → IfOk r (λ judged. IsSome judged.age) → (IsTrue need.double → IfOk r IsDouble)
    → IsShaped [] [] (Key need) (answered r)
judged_shape need (Err _) halves under double = tt
judged_shape need (Ok judged) halves under double = record { judged = judged; is = refl; halves = halves; under = under; double = λ is. double is }

pub external_shape : (need : Need) (r : Result Judged Rule) → IfOk r HasHalves → IsShaped [] [] (External need) (answered r)
external_shape need (Err _) halves = tt
external_shape need (Ok judged) halves = record { judged = judged; is = refl; halves = halves }

-- an external token is under no register

external_kind : (bytes : List ℕ) → first_failing (token_checks asked.External bytes) ≡ None → kind_of bytes ≡ kind.External
external_kind bytes passes =
    let byte : slice_index bytes 0 ≡ 2 =
    eqb-true (slice_index bytes 0) 2 (passes_first 9 (is_asked asked.External (slice_index bytes 0)) (drop 1 (token_checks asked.External bytes)) passes) in
    ap kind_at byte

external_ageless : (held : Registers) (need : Need) (bytes : List ℕ) (judged : Judged) → need.asked ≡ asked.External
    → first_failing (key_checks need held bytes) ≡ None → judged.age ≡ age_of held (token_of bytes) → judged.age ≡ None
external_ageless held need bytes judged external passes age =
    let token : first_failing (token_checks asked.External bytes) ≡ None =
    subst (λ a. first_failing (token_checks a bytes) ≡ None) external
    (none_in_first (token_checks need.asked bytes) (read_checks need held (token_of bytes)) passes) in
    age ∙ ap (λ k. age_in held k (pattern_of_token bytes)) (external_kind bytes token)

some_by : {A B : Type 0} (f : A → B) (o : Option A) → IsSome o → IsSome (option_map f o)
some_by f None some = some
some_by f (Some x) some = some

some_opened : (bench : Bench) (judged : Judged) → IsSome judged.age → IsSome (opened_key bench judged)
some_opened bench judged some = some_by _ judged.age some

module _ (digits bytes : List ℕ) (spelled : bytes ≡ hex_value digits) (need : Need) (held : Registers) where
  module _ (s : State) (bench : Bench) (loaded : Loaded s.registers held bench) where
    checks_are : first_failing (key_checks need (registers_of s.registers) (hex_value digits)) ≡ first_failing (key_checks need held bytes)
    checks_are =
        ap (λ (h : Registers). first_failing (key_checks need h (hex_value digits))) (sym loaded.told)
        ∙ ap (λ b. first_failing (key_checks need held b)) (sym spelled)

    pub token_asked : (r : Result Judged Rule) → Judges (key_checks need held bytes) r → IfOk r (λ judged. denoted (keys_of s.registers) bytes ≡ opened_key bench judged)
        → IsAsked s bench digits (Token need) (answered r)
    token_asked (Err _) judges opens = checks_are ∙ judges
    token_asked (Ok judged) judges opens = (
      checks_are ∙ judges,
      record { judged = judged; is = refl; key_is = ap (denoted (keys_of s.registers)) (sym spelled) ∙ opens },
    )

    pub external_asked : (r : Result Judged Rule) → need.asked ≡ asked.External → Judges (key_checks need held bytes) r
        → IfOk r (λ judged. judged.age ≡ age_of held (token_of bytes))
        → ((transport : List ℕ) → IfOk r (λ judged. denoted_under transport bytes ≡ Some (opened_under transport judged)))
        → IsAsked s bench digits (External need) (answered r)
    external_asked (Err _) external judges age opens = checks_are ∙ judges
    external_asked (Ok judged) external judges age opens = (
      checks_are ∙ judges,
      record {
        judged = judged;
        is = refl;
        opens = λ transport. ap (denoted_under transport) (sym spelled) ∙ opens transport;
        ageless = external_ageless held need bytes judged external judges age;
      },
    )

  pub token_keyed : (m : Masters) (bench : Bench) (r : Result Judged Rule) → IfOk r (λ judged. IsSome judged.age)
      → IfOk r (λ judged. denoted (keys_of m) bytes ≡ opened_key bench judged) → IsKeyedAnswer m digits (Token need) (answered r)
  token_keyed m bench (Err _) under opens = tt
  token_keyed m bench (Ok judged) under opens =
      subst IsSome (sym (ap (denoted (keys_of m)) (sym spelled) ∙ opens)) (some_opened bench judged under)

-- ---- a token of either kind

module _ (s : State) (bench : Bench) (digits bytes : List ℕ) (spelled : bytes ≡ hex_value digits) where
  checks_as : first_failing (token_checks asked.Either (hex_value digits)) ≡ first_failing (token_checks asked.Either bytes)
  checks_as = ap (λ b. first_failing (token_checks asked.Either b)) (sym spelled)

  pub either_read : (r : Result ReadToken TokenFault) (token : ReadToken) (grant : Grant) → r ≡ Ok token → IfOk r (λ found. found ≡ token_of bytes)
      → OnOk r (first_failing (token_checks asked.Either bytes) ≡ None) → grant ≡ record { token = Some token; key = None; place = None }
      → IsAsked s bench digits AnyToken (Ok grant)
  either_read (Err fault) token grant is reads passes made = cc is
  either_read (Ok found) token grant is reads passes made =
      let same : token ≡ found = cc is in (
        checks_as ∙ passes,
        (ap (λ (g : Grant). g.token) made ∙ ap Some (same ∙ reads ∙ ap token_of spelled), ap (λ (g : Grant). g.key) made),
      )

  pub either_refused : (r : Result ReadToken TokenFault) (fault : TokenFault) (named : Rule) → r ≡ Err fault
      → IfErr r (λ broken. first_failing (token_checks asked.Either bytes) ≡ Some (rule_of broken)) → rule_number named ≡ rule_of fault
      → IsAsked s bench digits AnyToken (Err named)
  either_refused (Ok found) fault named is fails number = cc is
  either_refused (Err broken) fault named is fails number =
      let same : broken ≡ fault = cc is in
      checks_as ∙ fails ∙ ap Some (ap rule_of same ∙ sym number)

pub either_shape : (token : ReadToken) (grant : Grant) (digits : List ℕ) → grant ≡ record { token = Some token; key = None; place = None } → IsShaped [] digits AnyToken (Ok grant)
either_shape token grant digits made = subst IsSome (sym (ap (λ (g : Grant). g.token) made)) refl

-- ---- the rules of an operand that names a label

pub target_asked : (s : State) (bench : Bench) (text label : List ℕ) (a : Result Grant Rule) → label_named text ≡ Some label → IsAsked s bench label Held a → IsAsked s bench text Target a
target_asked s bench text label (Err _) named says = ap (λ (o : Option (List ℕ)). first_failing (target_checks s o)) named ∙ says
target_asked s bench text label (Ok grant) named says = (
  ap (λ (o : Option (List ℕ)). first_failing (target_checks s o)) named ∙ says.0,
  (says.1.0 ∙ ap (target_cell s) (sym named), says.1.1),
)

pub key_by_label : (s : State) (bench : Bench) (text label : List ℕ) (need : Need) (a : Result Grant Rule) → label_named text ≡ Some label → IsLabelAsked s bench need label a
    → IsAsked s bench text (Key need) a
key_by_label s bench text label need (Err _) named says = ap (λ (o : Option (List ℕ)). first_failing (key_questions s need o text)) named ∙ says
key_by_label s bench text label need (Ok grant) named says = (
  ap (λ (o : Option (List ℕ)). first_failing (key_questions s need o text)) named ∙ says.0,
  subst (λ (o : Option (List ℕ)). HasKey bench (key_named s o text) grant) (sym named) says.1.has,
)

pub key_by_token : (s : State) (bench : Bench) (text : List ℕ) (need : Need) (a : Result Grant Rule) → label_named text ≡ None → IsAsked s bench (drop 2 text) (Token need) a
    → IsAsked s bench text (Key need) a
key_by_token s bench text need (Err _) named says = ap (λ (o : Option (List ℕ)). first_failing (key_questions s need o text)) named ∙ says
key_by_token s bench text need (Ok grant) named says = (
  ap (λ (o : Option (List ℕ)). first_failing (key_questions s need o text)) named ∙ says.0,
  subst (λ (o : Option (List ℕ)). HasKey bench (key_named s o text) grant) (sym named) says.1,
)

before_none : (first second : List Check) → first_failing second ≡ None → first_failing (first ++ second) ≡ first_failing first
before_none [] second none = none
before_none (c ∷ checks) second none = ap (λ (o : Option ℕ). if c.fails then Some c.rule else o) (before_none checks second none)

-- any key may be in a record that is asked for
pub record_asked : (s : State) (bench : Bench) (label : List ℕ) (a : Result Grant Rule) → IsLabelAsked s bench any_key label a → IsAsked s bench label Record a
record_asked s bench label (Err _) says =
    sym (before_none (record_checks s label) (use_checks any_key (or_no_key (key_of_label s label)).clear.vector) (any_use (or_no_key (key_of_label s label)).clear.vector)) ∙ says
record_asked s bench label (Ok grant) says = (
  sym (before_none (record_checks s label) (use_checks any_key (or_no_key (key_of_label s label)).clear.vector) (any_use (or_no_key (key_of_label s label)).clear.vector)) ∙ says.0,
  says.1,
)

-- ---- what was judged stays so where the store is read

has_key_before : (bench : Bench) (b : List ℕ) (key : Option Denoted) (grant : Grant) → HasKey (record bench { body = b }) key grant → HasKey bench key grant
has_key_before bench b key grant has = record { judged = has.judged; is = has.is; key_is = has.key_is }

granted_before : (s : State) (bench : Bench) (b text : List ℕ) (ask : Ask) (grant : Grant) → IsGranted s (record bench { body = b }) text ask grant → IsGranted s bench text ask grant
granted_before s bench b text AnyToken grant granted = granted
granted_before s bench b text (Key need) grant granted = has_key_before bench b (key_in_text s text) grant granted
granted_before s bench b text (Token need) grant granted = has_key_before bench b (key_of_token s (hex_value text)) grant granted
granted_before s bench b text (External need) grant granted = granted
granted_before s bench b text Record grant granted =
    record { has = record { judged = granted.has.judged; is = granted.has.is; key_is = granted.has.key_is }; age = granted.age }
granted_before s bench b text Held grant granted = granted
granted_before s bench b text NewLabel grant granted = granted
granted_before s bench b text Target grant granted = granted
granted_before s bench b text Nothing grant granted = granted

module _ (s : State) (old new : Lease) (keeps : KeepsAllButBody old new) where
  -- of a later bench, which differs in its body alone
  pub asked_before : (text : List ℕ) (ask : Ask) (grant : Grant) → IsAsked s (bench_of new) text ask (Ok grant) → IsAsked s (bench_of old) text ask (Ok grant)
  asked_before text ask grant says = (
    says.0,
    granted_before s (bench_of old) (bench_of new).body text ask grant (subst (λ (l : Lease). IsGranted s (bench_of l) text ask grant) keeps says.1),
  )

  pub at_after : (held : Registers) (rows : List (Option Row)) (m0 m1 : Medium) → Keeps m0 m1 → AtStore s held (bench_of old) rows m0 → AtStore s held (bench_of new) rows m1
  at_after held rows m0 m1 kept at = record {
    loaded = subst (λ (l : Lease). Loaded s.registers held (bench_of l)) (sym keeps)
        (record { valid = at.loaded.valid; placed = record { coming = at.loaded.placed.coming; current = at.loaded.placed.current; former = at.loaded.placed.former }; told = at.loaded.told });
    stands = record {
      in_store = record { image = at.stands.in_store.image; told = kept.content ∙ at.stands.in_store.told; has = at.stands.in_store.has };
      agrees = at.stands.agrees;
    };
  }

-- ---- the operands in their order

pub all_granted : (s : State) (bench : Bench) (os : Operands) (granted : Granted)
    → IsAsked s bench os.first.text os.first.ask (Ok granted.first)
    → IsAsked s bench os.second.text os.second.ask (Ok granted.second)
    → IsAsked s bench os.third.text os.third.ask (Ok granted.third)
    → IsJudged s bench os (verdict.Granted granted)
all_granted s bench os granted first second third = (rw (first.0, second.0, third.0) refl, (first.1, second.1, third.1))
