-- What is judged of stored bytes is the key that they stand for.
use Rattle.std.proofs.Common.{◌≡◌, ◌∙◌, ℕ, List, Option, None, Some, Result, Ok, Err, refl, sym, ap, subst}
use Rattle.std.specs.Prelude.{IfOk}
use Rattle.cca_vectors.specs.Checks.{first_failing}
use Rattle.key_cells.specs.Bench.{Bench}
use Rattle.key_tokens.specs.declared.key_token.Age.{Age}
use Rattle.key_tokens.specs.declared.key_token.Asked.TheVariants as asked
use Rattle.key_tokens.specs.declared.key_token.Kind.TheVariants as kind
use Rattle.key_tokens.specs.declared.key_token.Token.{Token}
use Rattle.key_tokens.specs.Denotes.{Denoted, denoted}
use Rattle.key_tokens.specs.Fields.{token_of}
use Rattle.key_tokens.specs.TokenChecks.{token_checks}
use Rattle.master_registers.specs.Masters.{Masters}
use Rattle.master_registers.specs.Loaded.{Loaded}
use Rattle.master_registers.specs.declared.registers.Registers.{Registers}
use Rattle.verb_rules.specs.KeyChecks.{age_in, register_with, use_checks}
use Rattle.verb_rules.specs.Keys.{HasHalves, keys_of, opened_key}
use Rattle.verb_rules.specs.Rules.{Judges}
use Rattle.verb_rules.specs.StoredKeys.{IsRead, IsStoredUse}
use Rattle.verb_rules.specs.declared.judging.Judged.{Judged}
use Rattle.verb_rules.specs.declared.needs.Need.{Need}
use Rattle.verb_rules.specs.declared.rules.Rule.{Rule}
use Rattle.verb_rules.proofs.DenotedLemmas.{denoted_opened, judged_with}

module _ (held : Registers) (bytes : List ℕ) (token : Token) (is : token ≡ token_of bytes) where
  -- what the bytes stand for, by the register that has their pattern
  pub stands_for : (m : Masters) (bench : Bench) → Loaded m held bench → first_failing (token_checks asked.Internal bytes) ≡ None
      → (age : Option Age) → register_with held token.pattern ≡ age → denoted (keys_of m) bytes ≡ opened_key bench (judged_with token age)
  stands_for m bench loaded passes age found =
      denoted_opened m held bench bytes (judged_with token (register_with held token.pattern)) loaded passes
      (ap (λ (t : Token). judged_with t (register_with held t.pattern)) is)
      ∙ ap (λ a. opened_key bench (judged_with token a)) found

  -- what is judged of it, under that register
  pub use_of_key : (bench : Bench) (need : Need) (age : Age) (what : Option Denoted) (r : Result Judged Rule) → what ≡ opened_key bench (judged_with token (Some age))
      → Judges (use_checks need token.vector) r → IfOk r (λ judged. judged ≡ judged_with token (Some age)) → IsStoredUse bench need what (Some r)
  use_of_key bench need age what (Ok judged) stands judges same =
      subst (λ w. IsStoredUse bench need w (Some (Ok judged))) (sym stands) (judges, ap (opened_key bench) same)
  use_of_key bench need age what (Err rule) stands judges same =
      subst (λ w. IsStoredUse bench need w (Some (Err rule))) (sym stands) judges

  pub is_read : (age : Age) (judged : Judged) → token.kind ≡ kind.Internal → register_with held token.pattern ≡ Some age
      → HasHalves (judged_with token (Some age)) → judged ≡ judged_with token (Some age) → IsRead held bytes judged
  is_read age judged internal found halves same =
      subst (IsRead held bytes) (sym same)
      (record {
        token = is;
        age = sym (ap (λ k. age_in held k token.pattern) internal ∙ found);
        under = refl;
        halves = halves;
      })
