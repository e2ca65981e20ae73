-- What is held by a record with two tokens.
use Rattle.std.proofs.Common.{◌≡◌, inl, inr, ℕ, Bool, true, false, List, Option, None, Some, refl, sym, ap, subst, ◌∙◌, arith}
use Rattle.std.specs.Prelude.{bytes_eq}
use Rattle.std.proofs.lemmas.Slice.Eq.{bytes_eq-Decides}
use Rattle.key_tokens.specs.Fields.{pattern_of_token}
use Rattle.master_registers.specs.declared.patterns.Pattern.{Pattern}
use Rattle.std.specs.Option.{is_some}
use Rattle.record_bodies.specs.RecordBody.{HoldsUnder, IsFirst, IsSecond, IsKept, both_kind, held_token, second_token}
use Rattle.record_bodies.specs.declared.rows.Second.{Second}

pub first_of_two : (pattern : Pattern) (ahead : Option Pattern) (token : List ℕ) (second : Second) → HoldsUnder pattern ahead both_kind token second → IsFirst token
first_of_two pattern None token second (inl alone) = absurd (omega (arith, alone.0))
first_of_two pattern None token second (inr two) = two.1
first_of_two pattern (Some a) token second held = record { bytes = held.1.bytes; sound = held.1.sound; flag = held.1.flag }

pub second_of_two : (pattern : Pattern) (ahead : Option Pattern) (token : List ℕ) (second : Second) → HoldsUnder pattern ahead both_kind token second → IsSecond token second
second_of_two pattern None token second (inl alone) = absurd (omega (arith, alone.0))
second_of_two pattern None token second (inr two) = two.2
second_of_two pattern (Some a) token second held = held.2

-- the label is ahead
module _ (pattern : Pattern) (ahead : Option Pattern) (a : Pattern) (is : ahead ≡ Some a) (token : List ℕ) (second : Second) where
  pub holds_ahead : IsKept token pattern → IsSecond token second → second.pattern ≡ a → HoldsUnder pattern ahead both_kind token second
  holds_ahead kept is_second beside = subst (λ o. HoldsUnder pattern o both_kind token second) (sym is) (refl, kept, is_second, beside)

  pub kept_ahead : HoldsUnder pattern ahead both_kind token second → IsKept token pattern
  kept_ahead held = (subst (λ o. HoldsUnder pattern o both_kind token second) is held).1

  pub beside_ahead : HoldsUnder pattern ahead both_kind token second → second.pattern ≡ a
  beside_ahead held = (subst (λ o. HoldsUnder pattern o both_kind token second) is held).3

  pub token_ahead : token ≡ held_token (is_some ahead) both_kind token second
  token_ahead = ap (λ o. held_token (is_some o) both_kind token second) (sym is)

-- the label isn't ahead
module _ (pattern : Pattern) (ahead : Option Pattern) (is : ahead ≡ None) (token : List ℕ) (second : Second) where
  pub holds_turned : IsFirst token → IsSecond token second → second.pattern ≡ pattern → HoldsUnder pattern ahead both_kind token second
  holds_turned first is_second under = subst (λ o. HoldsUnder pattern o both_kind token second) (sym is) (inr (refl, first, is_second, under))

  pub under_turned : HoldsUnder pattern ahead both_kind token second → second.pattern ≡ pattern
  under_turned held = under (subst (λ o. HoldsUnder pattern o both_kind token second) is held)
    where
      under : HoldsUnder pattern None both_kind token second → second.pattern ≡ pattern
      under (inl alone) = absurd (omega (arith, alone.0))
      under (inr two) = two.3

  pub token_turned : second_token token second ≡ held_token (is_some ahead) both_kind token second
  token_turned = ap (λ o. held_token (is_some o) both_kind token second) (sym is)

-- two patterns that were compared
module _ (r : Bool) (a b : Pattern) (answer : r ≡ bytes_eq a.bytes b.bytes) where
  pub same_patterns : r ≡ true → a ≡ b
  same_patterns told = ap (λ (x : List ℕ). let p : Pattern = record { bytes = x } in p) ((bytes_eq-Decides a.bytes b.bytes).0 (sym answer ∙ told))

  pub other_patterns : r ≡ false → a ≡ b → ⊥
  other_patterns told same =
      let wrong : false ≡ true = sym told ∙ answer ∙ (bytes_eq-Decides a.bytes b.bytes).1 (ap (λ (p : Pattern). p.bytes) same) in
      absurd (cc)

-- a token of the pattern
pub kept_under : (pattern first : Pattern) (token : List ℕ) → IsFirst token → first.bytes ≡ pattern_of_token token → first ≡ pattern → IsKept token pattern
kept_under pattern first token is_first read same = record {
  bytes = is_first.bytes;
  sound = is_first.sound;
  flag = is_first.flag;
  under = sym read ∙ ap (λ (p : Pattern). p.bytes) same;
}

pub pattern_read : (pattern first : Pattern) (token : List ℕ) → IsKept token pattern → first.bytes ≡ pattern_of_token token → first ≡ pattern
pattern_read pattern first token kept read = ap (λ (x : List ℕ). let p : Pattern = record { bytes = x } in p) (read ∙ kept.under)
