use Rattle.std.proofs.Common.{◌≡◌, inl, inr, ℕ, true, false, Result, Ok, Err, Option, Some, refl, sym, ap, ◌∙◌}
use Rattle.std.specs.Prelude.{option_map, is_err, IfErr, OnOk}
use Rattle.verb_rules.specs.Keys.{keys_of}
use Rattle.record_bodies.specs.Entries.{pattern_for}
use Rattle.record_bodies.proofs.KeptLaws.{kept_flag, kept_with_flag, denoted_refused, pattern}
use Rattle.key_records.proofs.FoundLaws.{pattern_found, pattern_missing}
use Rattle.master_registers.specs.declared.registers.Registers.{Registers}
use Rattle.key_tokens.specs.declared.key_token.TokenFault.{TokenFault}
use Rattle.key_tokens.specs.TokenChecks.{token_checks, rule_of}
use Rattle.key_tokens.specs.declared.key_token.Asked.TheVariants as asked
use Rattle.cca_vectors.specs.Checks.{first_failing}
use Rattle.key_records.proofs.parsing.kept_pattern.Goals as goal
use Rattle.key_cells.proofs.AnswerLemmas.{not_true}

-- from an answer that is an error
from_err : {T P : Type 0} (r : Result T TokenFault) (o : Option ℕ) → is_err r ≡ true → IfErr r (λ fault. o ≡ Some (rule_of fault)) → ((rule : ℕ) → o ≡ Some rule → P) → P
from_err (Ok x) o is refused then = absurd (not_true false refl is)
from_err (Err e) o is refused then = then (rule_of e) refused

from_ok : {T P : Type 0} (r : Result T TokenFault) → is_err r ≡ false → OnOk r P → P
from_ok (Ok x) is holds = holds
from_ok (Err e) is holds = absurd (not_true true is refl)

pub returns-then-token-ne-KEY_AND_VECTOR : goal.returns-then-token-ne-KEY_AND_VECTOR
returns-then-token-ne-KEY_AND_VECTOR g c = sym (ap (option_map (pattern_for (keys_of g.m))) (kept_flag (keys_of g.m) c.args.token.now c.if-token-ne-KEY_AND_VECTOR.true))

pub returns-then-is_err : goal.returns-then-is_err
returns-then-is_err g c =
    sym (ap (option_map (pattern_for (keys_of g.m))) (kept_with_flag (keys_of g.m) c.args.token.now c.if-token-ne-KEY_AND_VECTOR.false
    ∙ from_err c.read_token.result (first_failing (token_checks asked.Internal c.args.token.now)) (sym c.is_err.ensures.value ∙ c.if-is_err.true) c.read_token.ensures.refused (λ rule is. denoted_refused (keys_of g.m) c.args.token.now rule is)))

pub returns-then-has_pattern : goal.returns-then-has_pattern
returns-then-has_pattern g c =
    sym (pattern_found g.m c.args.token.now c.pattern_in-pattern.result (ap pattern c.pattern_in-pattern.ensures) c.if-token-ne-KEY_AND_VECTOR.false
    (from_ok c.read_token.result (sym c.is_err.ensures.value ∙ c.if-is_err.false) c.read_token.ensures.accepted)
    (inl (sym (ap (λ (r : Registers). r.current_pattern) c.requires) ∙ c.has_pattern.ensures.held.0 c.if-has_pattern.true)))

pub returns-then-has_pattern-2 : goal.returns-then-has_pattern-2
returns-then-has_pattern-2 g c =
    sym (pattern_found g.m c.args.token.now c.pattern_in-pattern.result (ap pattern c.pattern_in-pattern.ensures) c.if-token-ne-KEY_AND_VECTOR.false
    (from_ok c.read_token.result (sym c.is_err.ensures.value ∙ c.if-is_err.false) c.read_token.ensures.accepted)
    (inr (
      λ has. not_true c.has_pattern.result c.if-has_pattern.false (c.has_pattern.ensures.held.1 (ap (λ (r : Registers). r.current_pattern) c.requires ∙ has)),
      sym (ap (λ (r : Registers). r.old_pattern) c.requires) ∙ c.has_pattern-2.ensures.held.0 c.if-has_pattern-2.true,
    )))

pub returns : goal.returns
returns g c =
    sym (pattern_missing g.m c.args.token.now c.pattern_in-pattern.result (ap pattern c.pattern_in-pattern.ensures) c.if-token-ne-KEY_AND_VECTOR.false
    (from_ok c.read_token.result (sym c.is_err.ensures.value ∙ c.if-is_err.false) c.read_token.ensures.accepted)
    (λ has. not_true c.has_pattern.result c.if-has_pattern.false (c.has_pattern.ensures.held.1 (ap (λ (r : Registers). r.current_pattern) c.requires ∙ has)))
    (λ has. not_true c.has_pattern-2.result c.if-has_pattern-2.false (c.has_pattern-2.ensures.held.1 (ap (λ (r : Registers). r.old_pattern) c.requires ∙ has))))
