-- A key that a request delivers, into the record of a label or into its reply.
use Rattle.std.proofs.Common.{◌≡◌, ℕ, true, false, List, ◌++◌, Option, None, Some, sym, ap, ◌∙◌}
use Rattle.std.specs.Prelude.{is_none, if◌then◌else◌}
use Rattle.std.specs.Str.{bytes_eq}
use Rattle.cca_vectors.specs.Checks.{first_failing}
use Rattle.key_tokens.specs.Denotes.{ClearKey}
use Rattle.key_transport.specs.Tokens.{as_current}
use Rattle.line_service.specs.Replies.{Done, Field}
use Rattle.verb_rules.specs.Keys.{keys_of, token_for}
use Rattle.verb_script.specs.Grammar.{Request}
use Rattle.cca_machine.specs.Act.{Effect, delivered_with, effect, effected, fields_after, or_act, performed, state_after, written_in}
use Rattle.cca_machine.specs.Keys.{key_of_label, key_of_token}
use Rattle.cca_machine.specs.State.{State}
use Rattle.cca_machine.specs.Verdict.{Refusal, target_checks, verdict}
use Rattle.cca_laws.specs.ReplyTokens.{field_in}
use Rattle.cca_laws.proofs.KeyTokens.{written}
use Rattle.cca_laws.proofs.MoveTokens.{IsWhole}
use Rattle.cca_laws.proofs.PartLaws.{key_found, stands}

-- a request that no rule refuses
pub acted : (s : State) (drawn : List ℕ) (r : Request) → verdict s drawn r ≡ None → performed s drawn r ≡ effected s r (effect s drawn r.name r)
unfolding performed
acted s drawn r is = ap (λ (v : Option Refusal). or_act v s drawn r) is

module _ (s : State) (name : List ℕ) (clear : ClearKey) (fields : List Field) (to : Option (List ℕ)) where
  abbrev pub delivery : Effect
  delivery = delivered_with s name to (as_current clear) fields

  -- the token that is delivered into the reply
  abbrev pub token_of_it : List ℕ
  token_of_it = token_for (keys_of s.registers) (as_current clear)

  pub in_record : (label : List ℕ) → first_failing (target_checks s to) ≡ None → to ≡ Some label → key_of_label (state_after s delivery) label ≡ Some (as_current clear)
  in_record label passes named =
      let there = stands s label (sym (ap (λ (o : Option (List ℕ)). first_failing (target_checks s o)) named) ∙ passes) in
      ap (λ (o : Option (List ℕ)). key_of_label (state_after s (delivered_with s name o (as_current clear) fields)) label) named
      ∙ (ap (λ (c : Option ℕ). key_of_label (record s { labels = written_in c (as_current clear) s.labels }) label) there.held
      ∙ key_found s label there.cell there.held (as_current clear))

  pub in_reply : (more : List Field) → bytes_eq name name ≡ true → to ≡ None → field_in name (Done (fields_after s delivery ++ more)) ≡ Some token_of_it
  in_reply more same named =
      ap (λ (o : Option (List ℕ)). field_in name (Done (fields_after s (delivered_with s name o (as_current clear) fields) ++ more))) named
      ∙ ap (λ t. if t then Some token_of_it else field_in name (Done (fields ++ more))) same

  pub nothing_written : to ≡ None → state_after s delivery ≡ s
  nothing_written named = ap (λ (o : Option (List ℕ)). state_after s (delivered_with s name o (as_current clear) fields)) named

  -- it stands for the key
  pub reply_stands : is_none s.registers.current ≡ false → IsWhole clear → to ≡ None → key_of_token (state_after s delivery) token_of_it ≡ Some (as_current clear)
  reply_stands full whole named = ap (λ (t : State). key_of_token t token_of_it) (nothing_written named) ∙ (written s.registers clear whole full).stands
