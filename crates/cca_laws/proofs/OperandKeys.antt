-- An operand that breaks no rule is a key.
use Rattle.std.proofs.Common.{◌≡◌, ℕ, Bool, true, false, not, List, [], ◌∷◌, Option, None, Some, refl, sym, ap, ◌∙◌}
use Rattle.std.specs.Prelude.{◌==◌, if◌then◌else◌, is_none, slice_index}
use Rattle.std.specs.Str.{bytes_eq}
use Rattle.cca_vectors.specs.Checks.{Check, check, first_failing}
use Rattle.cca_vectors.proofs.Judging.{none_in_first, passed_over}
use Rattle.record_bodies.specs.Labels.{is_label}
use Rattle.key_tokens.specs.Denotes.{Denoted, clear_of, denoted, denoted_or, denoted_under}
use Rattle.key_tokens.specs.Fields.{kind_of, pattern_of_token, token_of}
use Rattle.key_tokens.specs.Kinds.{kind_at}
use Rattle.key_tokens.specs.TokenChecks.{token_checks}
use Rattle.key_tokens.specs.declared.key_token.Age.{Age}
use Rattle.key_tokens.specs.declared.key_token.Age.TheVariants.{Current, Old}
use Rattle.key_tokens.specs.declared.key_token.Asked.{Asked}
use Rattle.key_tokens.specs.declared.key_token.Asked.TheVariants as asked
use Rattle.key_tokens.specs.declared.key_token.Kind.{Kind}
use Rattle.key_tokens.specs.declared.key_token.Kind.TheVariants as kind
use Rattle.master_registers.specs.Loaded.{has_pattern, pattern_in, registers_of}
use Rattle.master_registers.specs.Masters.{Masters, pattern_of_master}
use Rattle.master_registers.specs.declared.registers.Registers.{Registers}
use Rattle.multi_encipher.specs.Bundles.{transport_bundle}
use Rattle.verb_rules.specs.KeyChecks.{is_under_none, key_checks, part_check, pattern_check, read_checks, register_with, use_checks, vector_use_checks}
use Rattle.verb_rules.specs.Keys.{keys_of, master_key}
use Rattle.verb_rules.specs.declared.needs.Need.{Need}
use Rattle.verb_script.specs.Named.{label_named}
use Rattle.cca_machine.specs.Keys.{cell_with, key_bytes, key_in_text, key_named, key_of_label, key_of_token, or_no_key}
use Rattle.cca_machine.specs.State.{State}
use Rattle.cca_machine.specs.Verdict.{key_questions, record_checks}
use Rattle.cca_laws.proofs.EffectLaws.{third_passed}
use Rattle.cca_laws.proofs.UseLaws.{check_passes}

-- ---- a token

-- one of two registers has a pattern
abbrev age_by : Bool → Age → Option Age → Option Age
age_by b age other = if b then Some age else other

by_test : (b : Bool) (age : Age) (key : Denoted) (ages : Option Age) (rest : Option Denoted) → (is_none ages ≡ false → is_none rest ≡ false)
    → is_none (age_by b age ages) ≡ false → is_none (if b then Some key else rest) ≡ false
by_test true age key ages rest later is = refl
by_test false age key ages rest later is = later is

abbrev clear_denoted : List ℕ → List ℕ → Age → Denoted
clear_denoted parts bytes age = record { clear = clear_of parts bytes; age = age }

by_old : (former : Option (List ℕ)) (bytes : List ℕ)
    → is_none (age_by (has_pattern (pattern_in former) (pattern_of_token bytes)) Old None) ≡ false → is_none (denoted_or (master_key former) Old bytes None) ≡ false
by_old None bytes is = is
by_old (Some x) bytes is =
    by_test (bytes_eq (pattern_of_token bytes) (pattern_of_master x)) Old (clear_denoted x bytes Old) None None (λ is. cc is) is

by_current : (current former : Option (List ℕ)) (bytes : List ℕ)
    → is_none (age_by (has_pattern (pattern_in current) (pattern_of_token bytes)) Current (age_by (has_pattern (pattern_in former) (pattern_of_token bytes)) Old None)) ≡ false
    → is_none (denoted_or (master_key current) Current bytes (denoted_or (master_key former) Old bytes None)) ≡ false
by_current None former bytes is = by_old former bytes is
by_current (Some x) former bytes is =
    by_test (bytes_eq (pattern_of_token bytes) (pattern_of_master x)) Current (clear_denoted x bytes Current)
    (age_by (has_pattern (pattern_in former) (pattern_of_token bytes)) Old None) (denoted_or (master_key former) Old bytes None) (by_old former bytes) is

under_one : (m : Masters) (bytes : List ℕ) (k : Kind) → k ≡ kind.Internal → is_under_none (registers_of m) k (pattern_of_token bytes) ≡ false
    → is_none (register_with (registers_of m) (pattern_of_token bytes)) ≡ false
under_one m bytes k internal is = sym (ap (λ (j : Kind). is_under_none (registers_of m) j (pattern_of_token bytes)) internal) ∙ is

-- the first check of some that pass
abbrev pub first_fails : List Check → Bool
first_fails [] = false
first_fails (c ∷ checks) = c.fails

pub first_passed : (checks : List Check) → first_failing checks ≡ None → first_fails checks ≡ false
first_passed [] is = refl
first_passed (c ∷ checks) is = by_test c.fails is
  where
    by_test : (t : Bool) → first_failing (check c.rule t ∷ checks) ≡ None → t ≡ false
    by_test true same = cc same
    by_test false same = refl

internal_byte : (byte : ℕ) → not (byte == 0x01) ≡ false → kind_at byte ≡ kind.Internal
internal_byte byte is = by_byte (byte == 0x01) is
  where
    by_byte : (t : Bool) → not t ≡ false → (if t then kind.Internal else kind.External) ≡ kind.Internal
    by_byte true same = refl
    by_byte false same = cc same

pub token_checked : (asks : Asked) (need : Need) (held : Registers) (bytes : List ℕ) → need.asked ≡ asks → first_failing (key_checks need held bytes) ≡ None
    → first_failing (token_checks asks bytes) ≡ None
token_checked asks need held bytes is passes =
    ap (λ (a : Asked). first_failing (token_checks a bytes)) (sym is) ∙ none_in_first (token_checks need.asked bytes) (read_checks need held (token_of bytes)) passes

-- an internal token that breaks no rule is that of a key
pub token_given : (s : State) (need : Need) (bytes : List ℕ) → need.asked ≡ asked.Internal → first_failing (key_checks need (registers_of s.registers) bytes) ≡ None
    → is_none (key_of_token s bytes) ≡ false
unfolding denoted
token_given s need bytes is passes =
    let held : Registers = registers_of s.registers in
    let header : first_failing (token_checks asked.Internal bytes) ≡ None = token_checked asked.Internal need held bytes is passes in
    let first = none_in_first (token_checks need.asked bytes) (read_checks need held (token_of bytes)) passes in
    let read : first_failing (read_checks need held (token_of bytes)) ≡ None =
    sym (passed_over (token_checks need.asked bytes) (read_checks need held (token_of bytes)) first) ∙ passes in
    let part = check_passes 17 (part_check need (token_of bytes).vector).fails (pattern_check held (token_of bytes) ∷ vector_use_checks need (token_of bytes).vector) read in
    let pattern = check_passes 18 (is_under_none held (kind_of bytes) (pattern_of_token bytes)) (vector_use_checks need (token_of bytes).vector) part.1 in
    let under = under_one s.registers bytes (kind_of bytes) (internal_byte (slice_index bytes 0) (first_passed (token_checks asked.Internal bytes) header)) pattern.0 in
    ap (λ (o : Option ℕ). is_none (if is_none o then denoted_or (keys_of s.registers).current Current bytes (denoted_or (keys_of s.registers).former Old bytes None) else None)) header
    ∙ by_current s.registers.current s.registers.former bytes under

-- an external token that breaks no rule is that of a key, under any transport key
pub external_given : (transport bytes : List ℕ) → first_failing (token_checks asked.External bytes) ≡ None → is_none (denoted_under transport bytes) ≡ false
unfolding denoted_under
external_given transport bytes passes =
    ap (λ (o : Option ℕ). is_none (if is_none o then Some (clear_of (transport_bundle transport) bytes) else None)) passes

-- ---- a label

pub label_given : (s : State) (label : List ℕ) → first_failing (record_checks s label) ≡ None → is_none (key_of_label s label) ≡ false
label_given s label passes = third_passed (not (is_label label)) (is_none (cell_with s label)) (is_none (key_of_label s label)) 6 7 8 passes

-- ---- a key by its label or as a token

named_given : (s : State) (need : Need) (text : List ℕ) (named : Option (List ℕ)) → need.asked ≡ asked.Internal
    → first_failing (key_questions s need named text) ≡ None → is_none (key_named s named text) ≡ false
named_given s need text None is passes = token_given s need (key_bytes text) is passes
named_given s need text (Some label) is passes =
    label_given s label (none_in_first (record_checks s label) (use_checks need (or_no_key (key_of_label s label)).clear.vector) passes)

pub key_given : (s : State) (need : Need) (text : List ℕ) → need.asked ≡ asked.Internal → first_failing (key_questions s need (label_named text) text) ≡ None
    → is_none (key_in_text s text) ≡ false
key_given s need text is passes = named_given s need text (label_named text) is passes
