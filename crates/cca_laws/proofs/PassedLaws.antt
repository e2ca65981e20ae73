-- A key that a request passes on is delivered as it is.
use Rattle.std.proofs.Common.{◌≡◌, ℕ, Bool, true, false, not, List, [], ◌∷◌, replicate, Option, None, Some, refl, sym, ap, subst, ◌∙◌, codes}
use Rattle.std.specs.Prelude.{◌&&◌, ◌||◌, ◌==◌, is_none, option_map, if◌then◌else◌}
use Rattle.std.specs.Str.{bytes_eq}
use Rattle.std.proofs.lemmas.Bool.{eqb-true}
use Rattle.std.proofs.lemmas.Option.{same_Some}
use Rattle.key_cells.specs.Bytes.{AreBytes, xor}
use Rattle.key_cells.proofs.ByteLemmas.{IsZero-replicate}
use Rattle.cca_vectors.specs.Checks.{check, first_failing}
use Rattle.cca_vectors.specs.Permissions.{is_exportable}
use Rattle.cca_vectors.specs.Vectors.{length_of}
use Rattle.cca_vectors.proofs.ClosingLemmas.{closing_length, closing_off, closing_valid}
use Rattle.cca_vectors.proofs.PartLemmas.{part_length, part_valid}
use Rattle.key_parts.specs.Parts.{combined_key}
use Rattle.key_parts.proofs.XorLemmas.{bytes-xor}
use Rattle.key_tokens.specs.Denotes.{ClearKey, Denoted, MasterKey, clear_of, denoted_under}
use Rattle.key_tokens.specs.TokenChecks.{token_checks}
use Rattle.key_tokens.specs.declared.key_token.Age.{Age}
use Rattle.key_tokens.specs.declared.key_token.Asked.TheVariants as asked
use Rattle.key_tokens.specs.declared.key_token.Kind.TheVariants.{Internal, External}
use Rattle.key_tokens.proofs.Written.{made-token}
use Rattle.key_transport.specs.Tokens.{as_current, changed_token, external_token, full_bytes, new_token}
use Rattle.key_transport.specs.declared.changing.Target.TheVariants.{Current as ToCurrent, New}
use Rattle.master_registers.specs.Masters.{Empty, Full, Masters, NewRegister, Partial, pattern_of_master}
use Rattle.multi_encipher.specs.Bundles.{transport_bundle}
use Rattle.multi_encipher.specs.Seals.{seal}
use Rattle.multi_encipher.proofs.SealLaws.{one_to_one}
use Rattle.line_service.specs.Replies.{Hex}
use Rattle.verb_rules.specs.Keys.{keys_of, master_key, master_under, new_key, sealed_token, token_for}
use Rattle.verb_rules.specs.PartChecks.{part_length_checks}
use Rattle.verb_script.specs.Grammar.{Request, key_field, key_part_field, key_text, row_of, token_field, value_of}
use Rattle.verb_script.specs.declared.rows.RequestName.{RequestName}
use Rattle.verb_script.specs.declared.rows.RequestName.TheVariants.{Csnbkim, Csnbkex, Csnbpex, Csnbktc, CsnbkpiMiddle, Csnbktr, Csnbkrw, Csnbkrr}
use Rattle.verb_script.specs.Named.{label_named}
use Rattle.cca_machine.specs.Act.{Effect, Show, delivered, effect, effected, or_act, performed, token_out, written_in}
use Rattle.cca_machine.specs.Choices.{is_last_part, target_named}
use Rattle.cca_machine.specs.Keys.{any_old, cell_with, imported, key_in_field, key_in_text, key_of_label, key_of_request, key_of_token, or_no_clear, or_no_key, warning}
use Rattle.cca_machine.specs.Operands.{any_key, listed, operands, operands_of}
use Rattle.cca_machine.specs.State.{State}
use Rattle.cca_machine.specs.Verdict.{Refusal, bytes_in, change_questions, first_refusal, held_checks, needs_master, operand_questions, part_in, part_size, target_checks, verb_questions}
use Rattle.cca_laws.specs.Delivered.{IsDelivered, IsPerformed, IsTokenUnder, Master, RepliesToken, Transport, Under}
use Rattle.cca_laws.specs.Passing.{clear_of as clear_in, closed, combined, key_passed, operand_key, passes_out, passes_to, register_of as register_in, token_under, transport_of, under}
use Rattle.cca_laws.specs.Uses.{IsKeyWith}
use Rattle.cca_laws.proofs.ExportLaws.{external_passes, full_new, label_register, not_empty, register_of, under_register}
use Rattle.cca_laws.proofs.LineCases.{permitted, refused_none}
use Rattle.cca_laws.proofs.MoveTokens.{IsWhole}
use Rattle.cca_laws.proofs.PartLaws.{key_found}
use Rattle.cca_laws.proofs.TokenFields.{warning_has}
use Rattle.cca_laws.proofs.TokenVectors.{pattern_long}
use Rattle.cca_laws.proofs.UseLaws.{behind, check_passes, first_passes, not_false, text_allows, token_allows, transport_allows, first_allows, second_allows}
use Rattle.cca_laws.proofs.WholeKeys.{digits_spell, external_whole, field_named, label_is_whole, part_spells, text_is_whole, token_whole, value_is}

-- ---- a key that is there

some_key : (P : List ℕ → Type 0) (o : Option Denoted) → IsKeyWith P o → o ≡ Some (or_no_key o)
some_key P None has = absurd has
some_key P (Some key) has = refl

-- ---- the tokens of a whole key

module _ (clear : ClearKey) (whole : IsWhole clear) where
  sealed_under : (register : Option (List ℕ)) → is_none register ≡ false → IsTokenUnder (Master (master_key register)) clear (sealed_token (master_key register) clear)
  sealed_under None full = cc full
  sealed_under (Some bytes) full =
      let halves = (one_to_one bytes clear.vector).sealed clear.key whole.key in (
        record { key = bytes; pattern = pattern_of_master bytes },
        refl,
        record {
          key = whole.key;
          token = made-token (record { kind = Internal; pattern = pattern_of_master bytes; sealed = seal bytes clear.vector clear.key; vector = clear.vector })
              (pattern_long bytes) halves.left.size halves.right.size whole.vector tt halves.single;
        },
      )

  current_under : (m : Masters) → is_none m.current ≡ false → IsTokenUnder (Master (keys_of m).current) clear (token_for (keys_of m) (as_current clear))
  unfolding token_for
  current_under m full = sealed_under m.current full

  registered : (m : Masters) (age : Age) → is_none (register_of m age) ≡ false
      → IsTokenUnder (Master (master_under (keys_of m) age)) clear (token_for (keys_of m) (record { clear = clear; age = age }))
  unfolding token_for
  registered m age full =
      subst (λ (o : Option MasterKey). IsTokenUnder (Master o) clear (sealed_token o clear)) (sym (under_register m age)) (sealed_under (register_of m age) full)

  new_under : (m : Masters) → is_none (full_bytes m.coming) ≡ false → IsTokenUnder (Master (keys_of m).coming) clear (new_token m clear)
  unfolding new_token
  new_under m full = by_new m.coming full
    where
      by_new : (c : NewRegister) → is_none (full_bytes c) ≡ false → IsTokenUnder (Master (new_key c)) clear (sealed_token (master_key (full_bytes c)) clear)
      by_new Empty has = cc has
      by_new (Partial bytes) has = cc has
      by_new (Full bytes) has = sealed_under (Some bytes) has

  out_under : (transport : List ℕ) → IsTokenUnder (Transport transport) clear (external_token transport clear)
  unfolding external_token
  out_under transport =
      let halves = (one_to_one (transport_bundle transport) clear.vector).sealed clear.key whole.key in
      record {
        key = whole.key;
        token = made-token (record { kind = External; pattern = replicate 8 0; sealed = seal (transport_bundle transport) clear.vector clear.key; vector = clear.vector })
            refl halves.left.size halves.right.size whole.vector (IsZero-replicate 8) halves.single;
      }

-- ---- what a permitted request leaves

module _ (s : State) (r : Request) where
  -- a reply with one token
  one_reply : (P : List ℕ → Type 0) (bytes : List ℕ) → P bytes → RepliesToken P (effected s r (Show (Hex (codes "token") bytes ∷ []))).reply
  one_reply P bytes has = record {
    token = bytes;
    others = warning (any_old s (listed (operands r)));
    first = refl;
    alone = warning_has (λ _. ⊥) (any_old s (listed (operands r)));
    has = has;
  }

  held_cell : (o : Option ℕ) → is_none o ≡ false → (cell : ℕ) × (o ≡ Some cell)
  held_cell None some = cc some
  held_cell (Some cell) some = (cell, refl)

  -- a record that is written
  written_key : (label : List ℕ) (key : Denoted) → first_failing (held_checks s label) ≡ None → key_of_label (record s { labels = written_in (cell_with s label) key s.labels }) label ≡ Some key
  written_key label key passes =
      let well = check_passes 6 _ (check 7 (is_none (cell_with s label)) ∷ []) passes in
      let there = held_cell (cell_with s label) (check_passes 7 (is_none (cell_with s label)) [] well.1).0 in
      ap (λ (o : Option ℕ). key_of_label (record s { labels = written_in o key s.labels }) label) there.1 ∙ key_found s label there.0 there.1 key

  delivered_is : (to : Option (List ℕ)) (clear : ClearKey) → is_none s.registers.current ≡ false → IsWhole clear → first_failing (target_checks s to) ≡ None
      → IsDelivered s to clear (effected s r (delivered s (codes "token") to (as_current clear)))
  delivered_is None clear full whole passes =
      one_reply (IsTokenUnder (Master (keys_of s.registers).current) clear) (token_for (keys_of s.registers) (as_current clear)) (current_under clear whole s.registers full)
  delivered_is (Some label) clear full whole passes = written_key label (as_current clear) passes

-- ---- each request

some_from : (o : Option Denoted) → is_none o ≡ false → o ≡ Some (or_no_key o)
some_from None some = cc some
some_from (Some key) some = refl

some_clear : (transport bytes : List ℕ) → first_failing (token_checks asked.External bytes) ≡ None
    → denoted_under transport bytes ≡ Some (or_no_clear (denoted_under transport bytes))
unfolding denoted_under
some_clear transport bytes passes = by_test (is_none (first_failing (token_checks asked.External bytes))) (ap is_none passes)
  where
    by_test : (t : Bool) → t ≡ true
        → (if t then Some (clear_of (transport_bundle transport) bytes) else None)
        ≡ Some (or_no_clear (if t then Some (clear_of (transport_bundle transport) bytes) else None))
    by_test true is = refl
    by_test false is = cc is

closed_whole : (clear : ClearKey) → IsWhole clear → IsWhole (closed clear)
closed_whole clear whole = record {
  key = subst (λ n. AreBytes n clear.key) (sym (closing_length clear.vector whole.vector)) whole.key;
  vector = closing_valid clear.vector whole.vector;
}

combined_whole : (last : Bool) (clear : ClearKey) (part : List ℕ) → IsWhole clear → AreBytes (length_of clear.vector) part → IsWhole (combined_key last clear part)
combined_whole true clear part whole bytes = record {
  key = subst (λ n. AreBytes n (xor clear.key part)) (sym (part_length clear.vector whole.vector)) (bytes-xor (length_of clear.vector) clear.key part whole.key bytes);
  vector = part_valid clear.vector whole.vector;
}
combined_whole false clear part whole bytes = record {
  key = bytes-xor (length_of clear.vector) clear.key part whole.key bytes;
  vector = whole.vector;
}

module _ (s : State) (drawn : List ℕ) (r : Request) (is_done : IsPerformed s drawn r) where
  -- the 64 bytes of a token that is given
  token_bytes : (name : RequestName) → name ≡ r.name → field_named (row_of name).fields (codes "token") ≡ Some token_field → AreBytes 64 (bytes_in r (codes "token"))
  token_bytes name is has =
      digits_spell (value_of r (codes "token")) 128
      (value_is (row_of r.name).fields r.values (codes "token") token_field (ap (λ n. field_named (row_of n).fields (codes "token")) (sym is) ∙ has) is_done.spelled) refl

  -- the key of an operand
  operand_whole : (name : RequestName) (field : List ℕ) (P : List ℕ → Type 0) → name ≡ r.name
      → field_named (row_of name).fields field ≡ Some (record { name = field; values = key_text }) → IsKeyWith P (key_in_text s (value_of r field))
      → IsWhole (key_in_field s r field)
  operand_whole name field P is has there =
      text_is_whole s is_done.store is_done.stands (value_of r field) (or_no_key (key_in_text s (value_of r field)))
      (value_is (row_of r.name).fields r.values field (record { name = field; values = key_text }) (ap (λ n. field_named (row_of n).fields field) (sym is) ∙ has) is_done.spelled)
      (some_key P (key_in_text s (value_of r field)) there)

  -- the key of an external token that is given
  imported_is : (name : RequestName) (field : List ℕ) (P : List ℕ → Type 0) → IsKeyWith P (key_in_text s (value_of r field))
      → first_failing (token_checks asked.External (bytes_in r (codes "token"))) ≡ None
      → token_under r (clear_in (operand_key s r field)) ≡ Some (imported (key_in_field s r field) (bytes_in r (codes "token")))
  imported_is name field P there passes =
      ap (λ (o : Option Denoted). token_under r (clear_in o)) (some_key P (key_in_text s (value_of r field)) there)
      ∙ some_clear (key_in_field s r field).key (bytes_in r (codes "token")) passes

  imported_whole : (name : RequestName) (field : List ℕ) → name ≡ r.name → field_named (row_of name).fields (codes "token") ≡ Some token_field
      → first_failing (token_checks asked.External (bytes_in r (codes "token"))) ≡ None
      → IsWhole (imported (key_in_field s r field) (bytes_in r (codes "token")))
  imported_whole name field is has passes =
      external_whole (key_in_field s r field).key (bytes_in r (codes "token")) _ (token_bytes name is has) (some_clear (key_in_field s r field).key (bytes_in r (codes "token")) passes)

  abbrev Delivers : RequestName → Type 0
  Delivers name =
      (clear : ClearKey) × (key_passed s name r ≡ Some clear)
      × IsDelivered s (label_named (value_of r (codes "to"))) clear (effected s r (effect s drawn name r))

  abbrev Replies : RequestName → Type 0
  Replies name =
      (clear : ClearKey) × (key_passed s name r ≡ Some clear)
      × RepliesToken (IsTokenUnder (under s name r) clear) (effected s r (effect s drawn name r)).reply

  abbrev Asked : RequestName → Type 0
  Asked name = first_refusal (operand_questions s (listed (operands_of name r))) ≡ None

  module _ (full : is_none s.registers.current ≡ false) where
    delivers : (name : RequestName) → name ≡ r.name → passes_to name ≡ true → Asked name → first_refusal (verb_questions s name r) ≡ None → Delivers name
    delivers Csnbkim is passes ops verb =
        let transport = transport_allows s r Csnbkim ops in
        let external = external_passes s r (behind Csnbkim r) ops in
        let second = first_passes s (operands_of Csnbkim r).first (behind Csnbkim r) ops in
        let third = first_passes s (operands_of Csnbkim r).second ((operands_of Csnbkim r).third ∷ []) second.1 in
        let target = first_passes s (operands_of Csnbkim r).third [] third.1 in
        let clear : ClearKey = imported (key_in_field s r (codes "transport")) (bytes_in r (codes "token")) in (
          clear,
          imported_is Csnbkim (codes "transport") _ transport external,
          delivered_is s r (label_named (value_of r (codes "to"))) clear full (imported_whole Csnbkim (codes "transport") is refl external) target.0,
        )
    delivers Csnbpex is passes ops verb =
        let there = text_allows s r Csnbpex ops verb in
        let second = first_passes s (operands_of Csnbpex r).first (behind Csnbpex r) ops in
        let target = first_passes s (operands_of Csnbpex r).second ((operands_of Csnbpex r).third ∷ []) second.1 in (
          closed (key_of_request s r),
          ap (λ (o : Option Denoted). option_map closed (clear_in o)) (some_key _ (operand_key s r (codes "key")) there),
          delivered_is s r (label_named (value_of r (codes "to"))) (closed (key_of_request s r)) full
              (closed_whole (key_of_request s r) (operand_whole Csnbpex (codes "key") _ is refl there)) target.0,
        )
    delivers CsnbkpiMiddle is passes ops verb =
        let there = text_allows s r CsnbkpiMiddle ops verb in
        let second = first_passes s (operands_of CsnbkpiMiddle r).first (behind CsnbkpiMiddle r) ops in
        let target = first_passes s (operands_of CsnbkpiMiddle r).second ((operands_of CsnbkpiMiddle r).third ∷ []) second.1 in
        let clear : ClearKey = key_of_request s r in
        let long = refused_none (first_failing (part_length_checks clear.vector (part_size r))) (codes "part") _ verb in
        let size : part_size r ≡ length_of clear.vector =
        eqb-true (part_size r) (length_of clear.vector) (not_false _ (check_passes 32 (not (part_size r == length_of clear.vector)) [] long.0).0) in
        let spelled : AreBytes (part_size r) (part_in r) =
        part_spells (value_of r (codes "part"))
        (value_is (row_of r.name).fields r.values (codes "part") key_part_field (ap (λ n. field_named (row_of n).fields (codes "part")) (sym is)) is_done.spelled) in (
          combined (value_of r (codes "rule")) (part_in r) clear,
          ap (λ (o : Option Denoted). option_map (combined (value_of r (codes "rule")) (part_in r)) (clear_in o)) (some_key _ (operand_key s r (codes "key")) there),
          delivered_is s r (label_named (value_of r (codes "to"))) (combined (value_of r (codes "rule")) (part_in r) clear) full
              (combined_whole (is_last_part (value_of r (codes "rule"))) clear (part_in r) (operand_whole CsnbkpiMiddle (codes "key") _ is refl there)
              (subst (λ n. AreBytes n (part_in r)) size spelled)) target.0,
        )
    delivers _ is passes ops verb = cc passes

    changed_is : (clear : ClearKey) → IsWhole clear → (t : Bool) → first_refusal (change_questions s (if t then ToCurrent else New)) ≡ None
        → IsTokenUnder (if t then Master (keys_of s.registers).current else Master (keys_of s.registers).coming) clear
        (changed_token s.registers (if t then ToCurrent else New) clear)
    changed_is clear whole true passes = current_under clear whole s.registers full
    changed_is clear whole false passes =
        new_under clear whole s.registers (full_new s.registers.coming (not_empty _ (refused_none _ (codes "-") None passes).0))

    replies : (name : RequestName) → name ≡ r.name → passes_out name ≡ true → Asked name → first_refusal (verb_questions s name r) ≡ None → Replies name
    replies Csnbkex is passes ops verb =
        let there = text_allows s r Csnbkex ops verb in
        let transport = transport_allows s r Csnbkex ops in
        let clear : ClearKey = key_of_request s r in
        let carried : Option Denoted = operand_key s r (codes "transport") in
        let e : Effect = effect s drawn Csnbkex r in (
          clear,
          ap clear_in (some_key _ (operand_key s r (codes "key")) there),
          subst (λ (u : Under). RepliesToken (IsTokenUnder u clear) (effected s r e).reply) (sym (ap transport_of (some_key _ carried transport)))
              (one_reply s r (IsTokenUnder (Transport (key_in_field s r (codes "transport")).key) clear) (token_out s r (codes "transport") clear)
              (out_under clear (operand_whole Csnbkex (codes "key") _ is refl there) (key_in_field s r (codes "transport")).key)),
        )
    replies Csnbktr is passes ops verb =
        let first = first_allows s r Csnbktr ops in
        let second = second_allows s r Csnbktr ops in
        let external = external_passes s r (behind Csnbktr r) ops in
        let clear : ClearKey = imported (key_in_field s r (codes "transport1")) (bytes_in r (codes "token")) in
        let carried : Option Denoted = operand_key s r (codes "transport2") in
        let e : Effect = effect s drawn Csnbktr r in (
          clear,
          imported_is Csnbktr (codes "transport1") _ first external,
          subst (λ (u : Under). RepliesToken (IsTokenUnder u clear) (effected s r e).reply) (sym (ap transport_of (some_key _ carried second)))
              (one_reply s r (IsTokenUnder (Transport (key_in_field s r (codes "transport2")).key) clear) (token_out s r (codes "transport2") clear)
              (out_under clear (imported_whole Csnbktr (codes "transport1") is refl external) (key_in_field s r (codes "transport2")).key)),
        )
    replies Csnbktc is passes ops verb =
        let bytes : List ℕ = bytes_in r (codes "token") in
        let there = token_allows s any_key bytes refl (first_passes s (operands_of Csnbktc r).first (behind Csnbktc r) ops).0 in
        let some = some_key _ (key_of_token s bytes) there in
        let clear : ClearKey = (or_no_key (key_of_token s bytes)).clear in
        let whole : IsWhole clear = token_whole bytes (or_no_key (key_of_token s bytes)) (keys_of s.registers) (token_bytes Csnbktc is refl) some in
        let rule : List ℕ = value_of r (codes "rule") in (
          clear,
          ap clear_in some,
          one_reply s r (IsTokenUnder (under s Csnbktc r) clear) (changed_token s.registers (target_named rule) clear)
              (changed_is clear whole (bytes_eq rule (codes "RTCMK")) verb),
        )
    replies Csnbkrr is passes ops verb =
        let label : List ℕ = value_of r (codes "label") in
        let asks = (first_passes s (operands_of Csnbkrr r).first (behind Csnbkrr r) ops).0 in
        let well = check_passes 6 _ (check 7 (is_none (cell_with s label)) ∷ check 8 (is_none (key_of_label s label)) ∷ []) asks in
        let there = check_passes 7 (is_none (cell_with s label)) (check 8 (is_none (key_of_label s label)) ∷ []) well.1 in
        let some = some_from (key_of_label s label) (check_passes 8 (is_none (key_of_label s label)) [] there.1).0 in
        let key : Denoted = or_no_key (key_of_label s label) in
        let whole : IsWhole key.clear = label_is_whole s is_done.store is_done.stands label key some in
        let e : Effect = effect s drawn Csnbkrr r in (
          key.clear,
          ap clear_in some,
          subst (λ (u : Under). RepliesToken (IsTokenUnder u key.clear) (effected s r e).reply) (sym (ap (register_in s) some))
              (one_reply s r (IsTokenUnder (Master (master_under (keys_of s.registers) key.age)) key.clear) (token_for (keys_of s.registers) key)
              (registered key.clear whole s.registers key.age (label_register s is_done.store label key is_done.stands some))),
        )
    replies _ is passes ops verb = cc passes

  -- a record that CSNBKRW writes
  writes : (name : RequestName) → name ≡ r.name → name ≡ Csnbkrw → Asked name
      → (key : Denoted) × (key_of_token s (bytes_in r (codes "token")) ≡ Some key)
      × (key_of_label (effected s r (effect s drawn name r)).state (value_of r (codes "label")) ≡ Some key)
  writes Csnbkrw is same ops =
      let bytes : List ℕ = bytes_in r (codes "token") in
      let held = first_passes s (operands_of Csnbkrw r).first (behind Csnbkrw r) ops in
      let there = token_allows s any_key bytes refl (first_passes s (operands_of Csnbkrw r).second ((operands_of Csnbkrw r).third ∷ []) held.1).0 in
      (or_no_key (key_of_token s bytes), some_key _ (key_of_token s bytes) there, written_key s r (value_of r (codes "label")) (or_no_key (key_of_token s bytes)) held.0)
  writes _ is same ops = cc same

-- ---- the laws

needs_current : (name : RequestName) → (passes_to name || passes_out name) ≡ true → needs_master name ≡ true
needs_current Csnbkim is = refl
needs_current Csnbpex is = refl
needs_current CsnbkpiMiddle is = refl
needs_current Csnbkex is = refl
needs_current Csnbktr is = refl
needs_current Csnbktc is = refl
needs_current Csnbkrr is = refl
needs_current _ is = cc is

module _ (s : State) (drawn : List ℕ) (r : Request) (is_done : IsPerformed s drawn r) where
  current_full : (passes_to r.name || passes_out r.name) ≡ true → is_none s.registers.current ≡ false
  current_full passes =
      sym (ap (λ b. b && is_none s.registers.current) (needs_current r.name passes)) ∙ (permitted s drawn r is_done.permitted).master

  or_second : (a b : Bool) → b ≡ true → (a || b) ≡ true
  or_second true b is = refl
  or_second false b is = is

  or_first : (a b : Bool) → a ≡ true → (a || b) ≡ true
  or_first true b is = refl
  or_first false b is = cc is

  pub passed_delivered : passes_to r.name ≡ true
      → (clear : ClearKey) × (key_passed s r.name r ≡ Some clear) × IsDelivered s (label_named (value_of r (codes "to"))) clear (performed s drawn r)
  unfolding performed
  passed_delivered passes =
      let p = permitted s drawn r is_done.permitted in
      subst (λ (v : Option Refusal). (clear : ClearKey) × (key_passed s r.name r ≡ Some clear) × IsDelivered s (label_named (value_of r (codes "to"))) clear (or_act v s drawn r))
      (sym is_done.permitted)
      (delivers s drawn r is_done (current_full (or_first (passes_to r.name) (passes_out r.name) passes)) r.name refl passes p.operands p.verb)

  pub passed_replied : passes_out r.name ≡ true
      → (clear : ClearKey) × (key_passed s r.name r ≡ Some clear) × RepliesToken (IsTokenUnder (under s r.name r) clear) (performed s drawn r).reply
  unfolding performed
  passed_replied passes =
      let p = permitted s drawn r is_done.permitted in
      subst (λ (v : Option Refusal). (clear : ClearKey) × (key_passed s r.name r ≡ Some clear) × RepliesToken (IsTokenUnder (under s r.name r) clear) (or_act v s drawn r).reply)
      (sym is_done.permitted)
      (replies s drawn r is_done (current_full (or_second (passes_to r.name) (passes_out r.name) passes)) r.name refl passes p.operands p.verb)

  pub passed_written : r.name ≡ Csnbkrw
      → (key : Denoted) × (key_of_token s (bytes_in r (codes "token")) ≡ Some key)
      × (key_of_label (performed s drawn r).state (value_of r (codes "label")) ≡ Some key)
  unfolding performed
  passed_written named =
      let p = permitted s drawn r is_done.permitted in
      subst (λ (v : Option Refusal). (key : Denoted) × (key_of_token s (bytes_in r (codes "token")) ≡ Some key)
      × (key_of_label (or_act v s drawn r).state (value_of r (codes "label")) ≡ Some key))
      (sym is_done.permitted)
      (writes s drawn r is_done r.name refl named p.operands)

-- CSNBPEX
pub closed_delivered : (s : State) (drawn : List ℕ) (r : Request) (key : Denoted) → IsPerformed s drawn r → r.name ≡ Csnbpex
    → key_in_text s (value_of r (codes "key")) ≡ Some key
    → (clear : ClearKey) × (clear.key ≡ key.clear.key) × (is_exportable clear.vector ≡ false)
    × IsDelivered s (label_named (value_of r (codes "to"))) clear (performed s drawn r)
closed_delivered s drawn r key is_done named has =
    let passed = passed_delivered s drawn r is_done (ap passes_to named) in
    let whole : IsWhole key.clear =
    text_is_whole s is_done.store is_done.stands (value_of r (codes "key")) key
    (value_is (row_of r.name).fields r.values (codes "key") key_field (ap (λ n. field_named (row_of n).fields (codes "key")) named) is_done.spelled) has in
    let is : Some passed.0 ≡ Some (closed key.clear) =
    sym passed.1 ∙ (ap (λ n. key_passed s n r) named ∙ ap (λ (o : Option Denoted). option_map closed (clear_in o)) has) in
    let same : passed.0 ≡ closed key.clear = same_Some passed.0 (closed key.clear) is in (
      passed.0,
      ap (λ (c : ClearKey). c.key) same,
      ap (λ (c : ClearKey). is_exportable c.vector) same ∙ closing_off key.clear.vector whole.vector,
      passed.2,
    )
