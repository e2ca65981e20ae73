-- Tokens of a master key that is neither the current nor the old one.
use Rattle.std.proofs.Common.{◌≡◌, ◌≢◌, ◌<◌, ◌⊎◌, inl, inr, ℕ, Bool, true, false, not, List, [], ◌∷◌, drop, Option, None, Some, refl, sym, ap, subst, ◌∙◌, codes}
use Rattle.std.specs.Prelude.{⊤, IsSome, bytes_eq, is_none, slice_index, ◌==◌, if◌then◌else◌}
use Rattle.std.proofs.lemmas.Option.{same_Some}
use Rattle.std.proofs.lemmas.Slice.Eq.{bytes_eq-Decides}
use Rattle.cca_vectors.specs.Checks.{Check, check, first_failing}
use Rattle.cca_vectors.proofs.Judging.{none_in_first, passed_over, passes_first, stopped_in}
use Rattle.device_cells.specs.Cells.{body}
use Rattle.key_transport.specs.declared.generating.Form.{Form}
use Rattle.key_transport.specs.declared.generating.Form.TheVariants.{Op, Opex, Opim, Imex, Exex, Imim}
use Rattle.key_tokens.specs.Denotes.{Denoted, clear_of, denoted, denoted_or, is_token}
use Rattle.key_tokens.specs.Fields.{kind_of, pattern_of_token, token_of, vector_bytes_of}
use Rattle.key_tokens.specs.Kinds.{is_asked}
use Rattle.key_tokens.specs.TokenChecks.{token_checks}
use Rattle.key_tokens.specs.declared.key_token.Age.{Age}
use Rattle.key_tokens.specs.declared.key_token.Age.TheVariants.{Current, Old}
use Rattle.key_tokens.specs.declared.key_token.Asked.{Asked}
use Rattle.key_tokens.specs.declared.key_token.Asked.TheVariants.{Internal, External, Either}
use Rattle.key_tokens.specs.declared.key_token.Kind.{Kind}
use Rattle.key_tokens.specs.declared.key_token.Kind.TheVariants as kind
use Rattle.master_registers.specs.Loaded.{has_pattern, pattern_in, registers_of}
use Rattle.master_registers.specs.Masters.{Empty, Full, Masters, NewRegister, Partial, has_pattern_of, is_full, new_bytes, pattern_of_master, same_pattern, set_refused}
use Rattle.record_bodies.specs.Entries.{Entry}
use Rattle.record_bodies.specs.RecordBody.{ReadsEntry, ReadsKey, ReadsWhat, kept}
use Rattle.record_bodies.specs.StoreStands.{entry_at}
use Rattle.verb_rules.specs.KeyChecks.{is_under_none, key_checks, part_check, pattern_check, read_checks, register_with, vector_use_checks}
use Rattle.verb_rules.specs.Keys.{keys_of, master_key}
use Rattle.verb_rules.specs.declared.needs.Need.{Need}
use Rattle.verb_script.specs.Grammar.{Request, value_of}
use Rattle.verb_script.specs.Named.{label_named}
use Rattle.verb_script.specs.Values.{hex_value}
use Rattle.verb_script.specs.declared.rows.RequestName.{RequestName}
use Rattle.verb_script.specs.declared.rows.RequestName.TheVariants.{Csnbenc, CsnbencFirst, CsnbencMiddle, CsnbencLast, Csnbdec, CsnbdecFirst, CsnbdecMiddle, CsnbdecLast, Csnbmgn, CsnbmgnFirst, CsnbmgnMiddle, CsnbmgnLast, Csnbmvr, CsnbmvrFirst, CsnbmvrMiddle, CsnbmvrLast, Csnbkyt, Csnbpex, CsnbkpiMiddle, Csnbkex, CsnbkgnPair, CsnbkgnOut, Csnbkim, Csnbktr, Csnbktc, Csnbkrw, CsnbmkpSet}
use Rattle.cca_machine.specs.Act.{effect, performed, state_after}
use Rattle.cca_machine.specs.Choices.{out_form_named, pair_form_named}
use Rattle.cca_machine.specs.Keys.{key_bytes}
use Rattle.cca_machine.specs.Operands.{Operand, first_transport, listed, operands, operands_of, second_transport}
use Rattle.cca_machine.specs.State.{State, IsStoreOf}
use Rattle.cca_machine.specs.Verdict.{Refusal, first_refusal, general_checks, key_questions, operand_checks, operand_questions, operands_verdict, or_refused, or_then, verb_questions, verdict, whole_verb_verdict}
use Rattle.cca_machine.specs.declared.asking.Ask.{Ask}
use Rattle.cca_machine.specs.declared.asking.Ask.TheVariants as ask
use Rattle.role_laws.specs.RetiredKeys.{IsAmong, IsRetired, IsUnderKept, internal_tokens, rules_before, token_where}
use Rattle.role_laws.proofs.Requests.{permitted_state, refused as no_change, verb_passed}
use Rattle.role_laws.proofs.RoleChanges.{is_other}

-- ---- no register has the pattern

hasn't_pattern : (register : Option (List ℕ)) (pattern : List ℕ) → ((master : List ℕ) → register ≡ Some master → pattern_of_master master ≢ pattern)
    → has_pattern (pattern_in register) pattern ≡ false
hasn't_pattern None pattern other = refl
hasn't_pattern (Some master) pattern other = is_other pattern (pattern_of_master master) (λ is. other master refl (sym is))

under_none : (m : Masters) (pattern : List ℕ) → IsRetired m pattern → is_none (register_with (registers_of m) pattern) ≡ true
under_none m pattern retired =
    rw (hasn't_pattern m.current pattern retired.current, hasn't_pattern m.former pattern retired.old) refl

-- ---- rule 18

first_fails : (a b : Bool) (rule next : ℕ) (others : List Check) → first_failing (check rule a ∷ []) ≡ None → b ≡ true
    → first_failing (check rule a ∷ check next b ∷ others) ≡ Some next
first_fails true b rule next others none is = cc none
first_fails false true rule next others none is = refl
first_fails false false rule next others none is = cc is

internal_kind : (token : List ℕ) → first_failing (token_checks Internal token) ≡ None → kind_of token ≡ kind.Internal
internal_kind token none =
    ap (λ (t : Bool). if t then kind.Internal else kind.External) (passes_first 9 (is_asked Internal (slice_index token 0)) (drop 1 (token_checks Internal token)) none)

rule_for : (m : Masters) (need : Need) (token : List ℕ) → need.asked ≡ Internal → IsRetired m (pattern_of_token token)
    → first_failing (rules_before need token) ≡ None → first_failing (key_checks need (registers_of m) token) ≡ Some 18
rule_for m need token asked retired none =
    let sound : first_failing (token_checks need.asked token) ≡ None = none_in_first (token_checks need.asked token) (part_check need (vector_bytes_of token) ∷ []) none in
    let part : first_failing (part_check need (vector_bytes_of token) ∷ []) ≡ None =
    sym (passed_over (token_checks need.asked token) (part_check need (vector_bytes_of token) ∷ []) sound) ∙ none in
    let is_internal : kind_of token ≡ kind.Internal = internal_kind token (subst (λ (a : Asked). first_failing (token_checks a token) ≡ None) asked sound) in
    let under : is_under_none (registers_of m) (kind_of token) (pattern_of_token token) ≡ true =
    ap (λ (k : Kind). is_under_none (registers_of m) k (pattern_of_token token)) is_internal ∙ under_none m (pattern_of_token token) retired in
    passed_over (token_checks need.asked token) (read_checks need (registers_of m) (token_of token)) sound
    ∙ first_fails _ (is_under_none (registers_of m) (kind_of token) (pattern_of_token token)) 17 18 (vector_use_checks need (vector_bytes_of token)) part under

pub rule : (s : State) (need : Need) (token : List ℕ) → need.asked ≡ Internal → IsRetired s.registers (pattern_of_token token)
    → first_failing (rules_before need token) ≡ None → first_failing (key_checks need (registers_of s.registers) token) ≡ Some 18
rule s need token = rule_for s.registers need token

-- ---- the operands that give a token

-- the bytes that an operand gives as an internal token
abbrev token_given : List ℕ → Ask → Option (List ℕ)
token_given text ask.AnyToken = None
token_given text (ask.Key need) = token_where (label_named text) text
token_given text (ask.Token need) = Some (hex_value text)
token_given text (ask.External need) = None
token_given text ask.Record = None
token_given text ask.Held = None
token_given text ask.NewLabel = None
token_given text ask.Target = None
token_given text ask.Nothing = None

-- one of the operands gives these bytes as an internal token
abbrev Gives : List ℕ → List Operand → Type 0
Gives token [] = ⊥
Gives token (o ∷ os) = (token_given o.text o.ask ≡ Some token) ⊎ Gives token os

at_first : {A X : Type 0} → A ⊎ ⊥ → A ⊎ X
at_first (inl a) = inl a
at_first (inr none) = absurd none

at_second : {A X Y : Type 0} → A ⊎ ⊥ → X ⊎ (A ⊎ Y)
at_second (inl a) = inr (inl a)
at_second (inr none) = absurd none

at_first_two : {A B X : Type 0} → A ⊎ (B ⊎ ⊥) → A ⊎ (B ⊎ X)
at_first_two (inl a) = inl a
at_first_two (inr (inl b)) = inr (inl b)
at_first_two (inr (inr none)) = absurd none

gives : (token : List ℕ) (name : RequestName) (r : Request) → IsAmong token (internal_tokens name r) → Gives token (listed (operands_of name r))
gives token Csnbenc r is = at_first is
gives token CsnbencFirst r is = at_first is
gives token CsnbencMiddle r is = at_first is
gives token CsnbencLast r is = at_first is
gives token Csnbdec r is = at_first is
gives token CsnbdecFirst r is = at_first is
gives token CsnbdecMiddle r is = at_first is
gives token CsnbdecLast r is = at_first is
gives token Csnbmgn r is = at_first is
gives token CsnbmgnFirst r is = at_first is
gives token CsnbmgnMiddle r is = at_first is
gives token CsnbmgnLast r is = at_first is
gives token Csnbmvr r is = at_first is
gives token CsnbmvrFirst r is = at_first is
gives token CsnbmvrMiddle r is = at_first is
gives token CsnbmvrLast r is = at_first is
gives token Csnbkyt r is = at_first is
gives token Csnbpex r is = at_first is
gives token CsnbkpiMiddle r is = at_first is
gives token CsnbkgnPair r is = at_first is
gives token Csnbktc r is = at_first is
gives token Csnbkim r is = at_second is
gives token Csnbkrw r is = at_second is
gives token Csnbkex r is = at_first_two is
gives token CsnbkgnOut r is = at_first_two is
gives token Csnbktr r is = inr is
gives token _ r is = absurd is

-- ---- an operand

is_some_of : {X : Type 0} (o : Option X) (x : X) → o ≡ Some x → IsSome o
is_some_of None x is = cc is
is_some_of (Some y) x is = refl

token_refused : (m : Masters) (need : Need) (token : List ℕ) → need.asked ≡ Internal → IsRetired m (pattern_of_token token)
    → IsSome (first_failing (key_checks need (registers_of m) token))
token_refused m need token asked retired = by_rule (first_failing (rules_before need token)) refl
  where
    by_rule : (o : Option ℕ) → first_failing (rules_before need token) ≡ o → IsSome (first_failing (key_checks need (registers_of m) token))
    by_rule None is = is_some_of (first_failing (key_checks need (registers_of m) token)) 18 (rule_for m need token asked retired is)
    by_rule (Some broken) is =
        is_some_of (first_failing (key_checks need (registers_of m) token)) broken
        (stopped_in (rules_before need token) (pattern_check (registers_of m) (token_of token) ∷ vector_use_checks need (vector_bytes_of token)) broken is)

abbrev is_internal : Asked → Bool
is_internal Internal = true
is_internal External = false
is_internal Either = false

internal : (a : Asked) → is_internal a ≡ true → a ≡ Internal
internal Internal is = refl
internal External is = cc is
internal Either is = cc is

-- of a key and of an internal token an internal token is asked
abbrev asks_internal : Ask → Bool
asks_internal (ask.Key need) = is_internal need.asked
asks_internal (ask.Token need) = is_internal need.asked
asks_internal ask.AnyToken = true
asks_internal (ask.External need) = true
asks_internal ask.Record = true
asks_internal ask.Held = true
asks_internal ask.NewLabel = true
asks_internal ask.Target = true
asks_internal ask.Nothing = true

by_label : (s : State) (need : Need) (label : Option (List ℕ)) (text token : List ℕ) → need.asked ≡ Internal → token_where label text ≡ Some token
    → IsRetired s.registers (pattern_of_token token) → IsSome (first_failing (key_questions s need label text))
by_label s need None text token asked given retired =
    token_refused s.registers need (key_bytes text) asked (subst (λ (t : List ℕ). IsRetired s.registers (pattern_of_token t)) (same_Some token (key_bytes text) (sym given)) retired)
by_label s need (Some label) text token asked given retired = cc given

operand_refused : (s : State) (text token : List ℕ) (a : Ask) → asks_internal a ≡ true → token_given text a ≡ Some token
    → IsRetired s.registers (pattern_of_token token) → IsSome (first_failing (operand_checks s text a))
operand_refused s text token (ask.Key need) asks given retired =
    by_label s need (label_named text) text token (internal need.asked asks) given retired
operand_refused s text token (ask.Token need) asks given retired =
    token_refused s.registers need (hex_value text) (internal need.asked asks) (subst (λ (t : List ℕ). IsRetired s.registers (pattern_of_token t)) (same_Some token (hex_value text) (sym given)) retired)
operand_refused s text token ask.AnyToken asks given retired = cc given
operand_refused s text token (ask.External need) asks given retired = cc given
operand_refused s text token ask.Record asks given retired = cc given
operand_refused s text token ask.Held asks given retired = cc given
operand_refused s text token ask.NewLabel asks given retired = cc given
operand_refused s text token ask.Target asks given retired = cc given
operand_refused s text token ask.Nothing asks given retired = cc given

-- ---- the operands of a request

first_broken : (o : Option ℕ) (name : List ℕ) (v : Option Refusal) → IsSome o → IsSome (or_refused o name v)
first_broken None name v some = cc some
first_broken (Some broken) name v some = refl

later_broken : (o : Option ℕ) (name : List ℕ) (v : Option Refusal) → IsSome v → IsSome (or_refused o name v)
later_broken None name v some = some
later_broken (Some broken) name v some = refl

abbrev AllInternal : List Operand → Type 0
AllInternal [] = ⊤
AllInternal (o ∷ os) = (asks_internal o.ask ≡ true) × AllInternal os

operands_refused : (s : State) (token : List ℕ) (os : List Operand) → AllInternal os → Gives token os → IsRetired s.registers (pattern_of_token token)
    → IsSome (first_refusal (operand_questions s os))
operands_refused s token [] all gives retired = absurd gives
operands_refused s token (o ∷ os) all (inl given) retired =
    first_broken (first_failing (operand_checks s o.text o.ask)) o.name _ (operand_refused s o.text token o.ask all.0 given retired)
operands_refused s token (o ∷ os) all (inr gives) retired =
    later_broken (first_failing (operand_checks s o.text o.ask)) o.name _ (operands_refused s token os all.1 gives retired)

first_asks : (form : Form) → is_internal (first_transport form).asked ≡ true
first_asks Op = refl
first_asks Opex = refl
first_asks Opim = refl
first_asks Imex = refl
first_asks Exex = refl
first_asks Imim = refl

second_asks : (form : Form) → is_internal (second_transport form).asked ≡ true
second_asks Op = refl
second_asks Opex = refl
second_asks Opim = refl
second_asks Imex = refl
second_asks Exex = refl
second_asks Imim = refl

all_internal : (name : RequestName) (r : Request) → AllInternal (listed (operands_of name r))
all_internal CsnbkgnPair r = (second_asks (pair_form_named (value_of r (codes "form"))), (refl, (refl, tt)))
all_internal CsnbkgnOut r = (first_asks (out_form_named (value_of r (codes "form"))), (second_asks (out_form_named (value_of r (codes "form"))), (refl, tt)))
all_internal _ r = (refl, (refl, (refl, tt)))

then_some : (a b : Option Refusal) → IsSome a → IsSome (or_then a b)
then_some None b some = cc some
then_some (Some x) b some = refl

pub refused : (s : State) (drawn token : List ℕ) (r : Request) → IsAmong token (internal_tokens r.name r) → IsRetired s.registers (pattern_of_token token)
    → IsSome (verdict s drawn r)
refused s drawn token r given retired =
    later_broken (first_failing (general_checks s r)) (codes "-") (or_then (operands_verdict s r) (whole_verb_verdict s drawn r))
    (then_some (operands_verdict s r) (whole_verb_verdict s drawn r)
    (operands_refused s token (listed (operands r)) (all_internal r.name r) (gives token r.name r given) retired))

pub unchanged : (s : State) (drawn token : List ℕ) (r : Request) → IsAmong token (internal_tokens r.name r) → IsRetired s.registers (pattern_of_token token)
    → (performed s drawn r).state ≡ s
unchanged s drawn token r given retired = by_verdict (verdict s drawn r) refl (refused s drawn token r given retired)
  where
    by_verdict : (v : Option Refusal) → verdict s drawn r ≡ v → IsSome v → (performed s drawn r).state ≡ s
    by_verdict None is some = cc some
    by_verdict (Some x) is some = no_change s drawn r x is

-- ---- labels

passed_by : (register : Option (List ℕ)) (age : Age) (token : List ℕ) (other : Option Denoted)
    → ((master : List ℕ) → register ≡ Some master → pattern_of_master master ≢ pattern_of_token token)
    → denoted_or (master_key register) age token other ≡ other
passed_by None age token other differs = refl
passed_by (Some master) age token other differs =
    ap (λ (t : Bool). if t then Some (record { clear = clear_of master token; age = age }) else other) (is_other (pattern_of_token token) (pattern_of_master master) (λ is. differs master refl (sym is)))

no_key : (m : Masters) (token : List ℕ) → IsRetired m (pattern_of_token token) → denoted (keys_of m) token ≡ None
unfolding denoted
no_key m token retired = by_test (is_token Internal token)
  where
    by_test : (t : Bool) → (if t then denoted_or (master_key m.current) Current token (denoted_or (master_key m.former) Old token None) else None) ≡ None
    by_test true = passed_by m.current Current token _ retired.current ∙ passed_by m.former Old token None retired.old
    by_test false = refl

none_kept : (m : Masters) (token : List ℕ) → IsRetired m (pattern_of_token token) → kept (keys_of m) token ≡ None
unfolding kept
none_kept m token retired = by_test (slice_index token 6 == 0xc0)
  where
    by_test : (t : Bool) → (if t then denoted (keys_of m) token else None) ≡ None
    by_test true = no_key m token retired
    by_test false = refl

under_kept : (m : Masters) (bytes : List ℕ) (e : Entry) (key : Denoted) → ReadsKey (keys_of m) bytes e.label key e.ahead e.unused → IsUnderKept m bytes e key
under_kept m bytes e key reads = record {
  token = reads.token;
  stands = reads.body;
  under = λ retired. none_is (sym (none_kept m reads.token retired) ∙ reads.is_kept);
}
  where
    none_is : None ≡ Some key → ⊥
    none_is is = cc is

pub labels : (s : State) (image : List ℕ) (cell : ℕ) (e : Entry) (key : Denoted) → IsStoreOf s image → cell < 1024
    → entry_at s.labels cell ≡ Some e → e.what ≡ Some key → IsUnderKept s.registers (body image cell) e key
labels s image cell e key stands within there has =
    let reads : ReadsEntry (keys_of s.registers) (body image cell) (Some e) =
    subst (ReadsEntry (keys_of s.registers) (body image cell)) there (stands.reads cell within) in
    under_kept s.registers (body image cell) e key
    (subst (λ (w : Option Denoted). ReadsWhat (keys_of s.registers) (body image cell) e.label w e.ahead e.unused) has reads.1)

-- ---- two SETs

pub record SetPassed (m : Masters) : Type 0 where
  pub full : is_full m.coming ≡ true
  pub new : same_pattern m ≡ false

set_passed : (m : Masters) (old : Bool) → first_refusal (record { operand = codes "-"; checks = check 25 (set_refused m) ∷ check 26 (same_pattern m) ∷ check 27 old ∷ [] } ∷ []) ≡ None → SetPassed m
set_passed m old none = by_tests (is_full m.coming) (same_pattern m) old refl refl none
  where
    by_tests : (a b c : Bool) → is_full m.coming ≡ a → same_pattern m ≡ b
        → first_refusal (record { operand = codes "-"; checks = check 25 (not a) ∷ check 26 b ∷ check 27 c ∷ [] } ∷ []) ≡ None → SetPassed m
    by_tests true false c is_a is_b none = record { full = is_a; new = is_b }
    by_tests true true c is_a is_b none = cc none
    by_tests false b c is_a is_b none = cc none

set_verdict : (s : State) (drawn : List ℕ) (r : Request) → r.name ≡ CsnbmkpSet → verdict s drawn r ≡ None → SetPassed s.registers
set_verdict s drawn r is permits =
    set_passed s.registers _ (ap (λ (name : RequestName). first_refusal (verb_questions s name r)) (sym is) ∙ verb_passed s drawn r permits)

-- the pattern of the new master key isn't that of the current one
new_pattern : (coming : NewRegister) (first : List ℕ) → is_full coming ≡ true → has_pattern_of coming (Some first) ≡ false
    → pattern_of_master (new_bytes coming) ≢ pattern_of_master first
new_pattern Empty first full new is = cc full
new_pattern (Partial bytes) first full new is = cc full
new_pattern (Full bytes) first full new is =
    let same : bytes_eq (pattern_of_master first) (pattern_of_master bytes) ≡ true = (bytes_eq-Decides (pattern_of_master first) (pattern_of_master bytes)).1 (sym is) in
    cc (same, new)

set_state : (s : State) (drawn : List ℕ) (r : Request) → r.name ≡ CsnbmkpSet → verdict s drawn r ≡ None
    → (performed s drawn r).state ≡ state_after s (effect s drawn CsnbmkpSet r)
set_state s drawn r is permits =
    permitted_state s drawn r permits ∙ ap (λ (name : RequestName). state_after s (effect s drawn name r)) is

pub retires : (s t : State) (drawn later first : List ℕ) (r again : Request) → r.name ≡ CsnbmkpSet → verdict s drawn r ≡ None
    → s.registers.current ≡ Some first → t.registers.current ≡ (performed s drawn r).state.registers.current
    → again.name ≡ CsnbmkpSet → verdict t later again ≡ None → pattern_of_master (new_bytes t.registers.coming) ≢ pattern_of_master first
    → IsRetired (performed t later again).state.registers (pattern_of_master first)
retires s t drawn later first r again is permits current kept_current is_again permits_again other =
    subst (λ (now : State). IsRetired now.registers (pattern_of_master first)) (sym (set_state t later again is_again permits_again))
    (record {
      current = λ master there same. other (ap pattern_of_master (same_Some (new_bytes t.registers.coming) master there) ∙ same);
      old = λ master there same. second (ap pattern_of_master (same_Some (new_bytes s.registers.coming) master (sym second_is ∙ there)) ∙ same);
    })
  where
    second_is : t.registers.current ≡ Some (new_bytes s.registers.coming)
    second_is = kept_current ∙ ap (λ (now : State). now.registers.current) (set_state s drawn r is permits)

    second : pattern_of_master (new_bytes s.registers.coming) ≢ pattern_of_master first
    second =
        let passed = set_verdict s drawn r is permits in
        new_pattern s.registers.coming first passed.full (ap (has_pattern_of s.registers.coming) (sym current) ∙ passed.new)
