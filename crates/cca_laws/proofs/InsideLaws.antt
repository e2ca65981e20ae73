-- Replies that depend on no byte of the master key registers.
use Rattle.std.proofs.Common.{◌≡◌, ℕ, Bool, true, false, not, List, [], ◌∷◌, ◌++◌, take, Option, None, Some, refl, sym, ap, ap₂, ◌∙◌, codes, ◌||◌, ◌&&◌}
use Rattle.std.specs.Prelude.{is_none, ⊤, ◌==◌, slice_index}
use Rattle.std.proofs.lemmas.Bool.{eqb-true, or_parts}
use Rattle.cca_vectors.specs.Checks.{Check, check, first_failing}
use Rattle.cca_vectors.proofs.Judging.{passed_over, stopped_in}
use Rattle.cipher_verbs.specs.CipherTexts.{deciphered_text, enciphered_text, test_value}
use Rattle.cipher_verbs.specs.declared.padding.Pad.TheVariants as padding
use Rattle.des_blocks.specs.Modes.{zero_block}
use Rattle.key_tokens.specs.Denotes.{ClearKey, Denoted}
use Rattle.key_tokens.specs.Fields.{pattern_of_token, token_of}
use Rattle.key_tokens.specs.Kinds.{kind_at}
use Rattle.key_tokens.specs.TokenChecks.{token_checks}
use Rattle.key_tokens.specs.declared.key_token.Asked.{Asked}
use Rattle.key_tokens.specs.declared.key_token.Asked.TheVariants as asked
use Rattle.key_tokens.specs.declared.key_token.Kind.{Kind}
use Rattle.key_tokens.specs.declared.key_token.Kind.TheVariants as kind
use Rattle.key_transport.specs.Generated.{generated_key}
use Rattle.key_transport.specs.Tokens.{external_token}
use Rattle.mac_verbs.specs.Codes.{code_of, is_code}
use Rattle.master_registers.specs.Actions.{after_action}
use Rattle.master_registers.specs.Loaded.{registers_of}
use Rattle.master_registers.specs.Masters.{Masters, is_empty, is_full, is_partial}
use Rattle.master_registers.specs.declared.actions.Action.{Action}
use Rattle.master_registers.specs.declared.registers.Registers.{Registers}
use Rattle.line_service.specs.Replies.{Done, Field, Hex, Text}
use Rattle.text_segments.specs.Chains.{first_chain}
use Rattle.text_segments.specs.declared.modes.Mode.TheVariants as mode
use Rattle.verb_rules.specs.KeyChecks.{is_under_none, key_checks, part_check, read_checks, vector_use_checks}
use Rattle.verb_rules.specs.declared.needs.Need.{Need}
use Rattle.verb_script.specs.Grammar.{Request, value_of}
use Rattle.verb_script.specs.declared.rows.RequestName.{RequestName}
use Rattle.verb_script.specs.declared.rows.RequestName.TheVariants.{Csnbenc, CsnbencFirst, CsnbencMiddle, CsnbencLast, Csnbdec, CsnbdecFirst, CsnbdecMiddle, CsnbdecLast, Csnbmgn, CsnbmgnFirst, CsnbmgnMiddle, CsnbmgnLast, Csnbmvr, CsnbmvrFirst, CsnbmvrMiddle, CsnbmvrLast, Csnbkyt, Csnbcki, CsnbkgnOp, CsnbkgnPair, CsnbkgnOut, Csnbkim, Csnbkex, Csnbpex, Csnbktc, CsnbkpiFirst, CsnbkpiMiddle, Csnbktr, Csnbkrr, CsnbmkpPart, CsnbmkpSet, ReencipherAhead}
use Rattle.verb_script.specs.Named.{label_named}
use Rattle.verb_script.specs.Values.{hex_value}
use Rattle.cca_machine.specs.Act.{Become, code_segment_fields, delivered_with, effect, fields_after, last_code_fields, last_match_fields, last_text_fields, or_act, or_empty, performed, segment_fields, type1_of, type2_of, yes_or_no}
use Rattle.cca_machine.specs.Actions.{part_action}
use Rattle.cca_machine.specs.Choices.{mac_length_named, mac_rule_named, pad_named}
use Rattle.cca_machine.specs.Draws.{draw_of, length_in}
use Rattle.cca_machine.specs.Keys.{any_old, imported, is_old, is_old_operand, key_in_field, key_in_text, key_named, or_no_key, warning}
use Rattle.cca_machine.specs.Operands.{Operand, listed, operands, operands_of}
use Rattle.cca_machine.specs.State.{State}
use Rattle.cca_machine.specs.Verdict.{Questions, Refusal, action_questions, bytes_in, chain_in, chain_questions, code_key_questions, code_rule, decipher_questions, draw_verdict, first_refusal, further_part_questions, general_checks, held_points, key_questions, lacks, last_segment_questions, last_text_questions, mac_questions, middle_questions, needed_points, needs_master, operand_checks, operand_questions, operands_verdict, or_last, or_refused, or_then, part_size, questions, segment_questions, target_checks, text_size, verb_questions, verb_verdict, verdict}
use Rattle.cca_machine.specs.declared.asking.Ask.{Ask}
use Rattle.cca_machine.specs.declared.asking.Ask.TheVariants.{AnyToken, Key, Token, External, Record, Held, NewLabel, Target, Nothing}
use Rattle.record_bodies.specs.Ages.{any_old as any_old_label}
use Rattle.cca_laws.specs.Inside.{AreAsFull, CompareAlike, any_internal_token, compares_patterns, is_internal_token, shows_internal, uses_master_key}
use Rattle.cca_laws.proofs.NamedLaws.{part_cases, register_tests}
use Rattle.cca_laws.proofs.OperandKeys.{first_passed}

-- ---- an external token

external_byte : (byte : ℕ) → not (byte == 0x02) ≡ false → kind_at byte ≡ kind.External
external_byte byte is = ap kind_at (eqb-true byte 0x02 (not_false (byte == 0x02) is))
  where
    not_false : (t : Bool) → not t ≡ false → t ≡ true
    not_false true same = refl
    not_false false same = cc same

module _ (need : Need) (one other : Registers) (bytes : List ℕ) (asks : need.asked ≡ asked.External) where
  -- the checks of a token that was read, by its kind
  abbrev read_by : Registers → Kind → List Check
  read_by held k =
      part_check need (token_of bytes).vector ∷ check 18 (is_under_none held k (pattern_of_token bytes)) ∷ vector_use_checks need (token_of bytes).vector

  by_header : (o : Option ℕ) → first_failing (token_checks need.asked bytes) ≡ o
      → first_failing (key_checks need one bytes) ≡ first_failing (key_checks need other bytes)
  by_header (Some rule) fails =
      stopped_in (token_checks need.asked bytes) (read_checks need one (token_of bytes)) rule fails
      ∙ sym (stopped_in (token_checks need.asked bytes) (read_checks need other (token_of bytes)) rule fails)
  by_header None passes =
      let external = external_byte (slice_index bytes 0)
      (first_passed (token_checks asked.External bytes) (ap (λ (a : Asked). first_failing (token_checks a bytes)) (sym asks) ∙ passes)) in
      passed_over (token_checks need.asked bytes) (read_checks need one (token_of bytes)) passes
      ∙ (ap (λ (k : Kind). first_failing (read_by one k)) external
      ∙ (sym (ap (λ (k : Kind). first_failing (read_by other k)) external)
      ∙ sym (passed_over (token_checks need.asked bytes) (read_checks need other (token_of bytes)) passes)))

  external_same : first_failing (key_checks need one bytes) ≡ first_failing (key_checks need other bytes)
  external_same = by_header (first_failing (token_checks need.asked bytes)) refl

-- what is asked of an external token asks for one
abbrev IfExternal : Ask → Type 0
IfExternal (External need) = need.asked ≡ asked.External
IfExternal _ = ⊤

abbrev AreExternal : List Operand → Type 0
AreExternal [] = ⊤
AreExternal (o ∷ os) = IfExternal o.ask × AreExternal os

externals : (name : RequestName) (r : Request) → AreExternal (listed (operands_of name r))
externals Csnbkim r = (refl, (tt, (tt, tt)))
externals Csnbktr r = (refl, (tt, (tt, tt)))
externals _ r = (tt, (tt, (tt, tt)))

-- ---- other registers, as full

-- the verdict by the first rule of each part that fails
abbrev by_parts : List ℕ → Request → Option ℕ → Option Refusal → Option Refusal → Option Refusal
by_parts random r general operand verb =
    or_refused general (codes "-") (or_then operand (or_last verb (draw_verdict (draw_of r.name r) random)))

module _ (s : State) (m : Masters) (same : AreAsFull m s.registers) where
  abbrev other : State
  other = record s { registers = m }

  abbrev general_by : Request → Bool → List Check
  general_by r empty =
      check 3 (is_none (held_points s r)) ∷ check 4 (lacks (held_points s r) (needed_points r.name r)) ∷ check 5 (needs_master r.name && empty) ∷ []

  general_same : (r : Request) → first_failing (general_checks other r) ≡ first_failing (general_checks s r)
  general_same r = ap (λ (empty : Bool). first_failing (general_by r empty)) same.current

  -- ---- what is asked of an operand

  named_checks : (need : Need) (text : List ℕ) (named : Option (List ℕ)) → is_none named ≡ false
      → first_failing (key_questions other need named text) ≡ first_failing (key_questions s need named text)
  named_checks need text None is = cc is
  named_checks need text (Some label) is = refl

  target_same : (named : Option (List ℕ)) → first_failing (target_checks other named) ≡ first_failing (target_checks s named)
  target_same None = refl
  target_same (Some label) = refl

  checks_same : (text : List ℕ) (ask : Ask) → IfExternal ask → is_internal_token text ask ≡ false
      → first_failing (operand_checks other text ask) ≡ first_failing (operand_checks s text ask)
  checks_same text AnyToken external none = refl
  checks_same text (Key need) external none = named_checks need text (label_named text) none
  checks_same text (Token need) external none = cc none
  checks_same text (External need) external none = external_same need (registers_of m) (registers_of s.registers) (hex_value text) external
  checks_same text Record external none = refl
  checks_same text Held external none = refl
  checks_same text NewLabel external none = refl
  checks_same text Target external none = target_same (label_named text)
  checks_same text Nothing external none = refl

  operands_same : (os : List Operand) → AreExternal os → any_internal_token os ≡ false
      → first_refusal (operand_questions other os) ≡ first_refusal (operand_questions s os)
  operands_same [] external none = refl
  operands_same (o ∷ os) external none =
      let parts = or_parts (is_internal_token o.text o.ask) (any_internal_token os) none in
      ap₂ (λ (rule : Option ℕ) (others : Option Refusal). or_refused rule o.name others)
      (checks_same o.text o.ask external.0 parts.0) (operands_same os external.1 parts.1)

  -- ---- the keys of a request

  named_key : (text : List ℕ) (named : Option (List ℕ)) → is_none named ≡ false → key_named other named text ≡ key_named s named text
  named_key text None is = cc is
  named_key text (Some label) is = refl

  text_key : (text : List ℕ) → is_none (label_named text) ≡ false → key_in_text other text ≡ key_in_text s text
  text_key text is = named_key text (label_named text) is

  field_key : (r : Request) (name : List ℕ) → is_none (label_named (value_of r name)) ≡ false → key_in_field other r name ≡ key_in_field s r name
  field_key r name is = ap (λ (key : Option Denoted). (or_no_key key).clear) (text_key (value_of r name) is)

  old_same : (text : List ℕ) (ask : Ask) → is_internal_token text ask ≡ false → is_old_operand other text ask ≡ is_old_operand s text ask
  old_same text AnyToken none = refl
  old_same text (Key need) none = ap is_old (text_key text none)
  old_same text (Token need) none = cc none
  old_same text (External need) none = refl
  old_same text Record none = refl
  old_same text Held none = refl
  old_same text NewLabel none = refl
  old_same text Target none = refl
  old_same text Nothing none = refl

  any_same : (os : List Operand) → any_internal_token os ≡ false → any_old other os ≡ any_old s os
  any_same [] none = refl
  any_same (o ∷ os) none =
      let parts = or_parts (is_internal_token o.text o.ask) (any_internal_token os) none in
      ap₂ (λ (a b : Bool). a || b) (old_same o.text o.ask parts.0) (any_same os parts.1)

  -- ---- the verb's rules

  abbrev NoToken : RequestName → Request → Type 0
  NoToken name r = any_internal_token (listed (operands_of name r)) ≡ false

  -- the operands one by one
  module _ (name : RequestName) (r : Request) (none : NoToken name r) where
    abbrev is_given : Operand → Bool
    is_given o = is_internal_token o.text o.ask

    first_none : is_given (operands_of name r).first ≡ false
    first_none = (or_parts (is_given (operands_of name r).first) (any_internal_token ((operands_of name r).second ∷ (operands_of name r).third ∷ [])) none).0

    later_none : any_internal_token ((operands_of name r).second ∷ (operands_of name r).third ∷ []) ≡ false
    later_none = (or_parts (is_given (operands_of name r).first) (any_internal_token ((operands_of name r).second ∷ (operands_of name r).third ∷ [])) none).1

    second_none : is_given (operands_of name r).second ≡ false
    second_none = (or_parts (is_given (operands_of name r).second) (any_internal_token ((operands_of name r).third ∷ [])) later_none).0

    third_none : is_given (operands_of name r).third ≡ false
    third_none =
        (or_parts (is_given (operands_of name r).third) false
        (or_parts (is_given (operands_of name r).second) (any_internal_token ((operands_of name r).third ∷ [])) later_none).1).0

  tests : (is_empty m.coming ≡ is_empty s.registers.coming) × (is_partial m.coming ≡ is_partial s.registers.coming) × (is_full m.coming ≡ is_full s.registers.coming)
  tests = register_tests m.coming s.registers.coming same.coming

  abbrev state_question : Bool → List Questions
  state_question wrong = questions (codes "-") (check 25 wrong ∷ check 26 false ∷ []) ∷ []

  part_same : (text : List ℕ) → action_questions other (part_action text) ≡ action_questions s (part_action text)
  part_same text =
      part_cases (λ (a : Action). action_questions other a ≡ action_questions s a)
      (ap (λ b. state_question (not b)) tests.0) (ap (λ b. state_question (not b)) tests.1) (ap (λ b. state_question (not b)) tests.1) text

  abbrev set_question : Bool → Bool → List Questions
  set_question full repeats = questions (codes "-") (check 25 (not full) ∷ check 26 repeats ∷ check 27 (any_old_label s.labels) ∷ []) ∷ []

  abbrev Alike : RequestName → Type 0
  Alike name = compares_patterns name ≡ true → CompareAlike m s.registers

  abbrev last_code_by : Request → ClearKey → List Questions
  last_code_by r key =
      code_key_questions (code_rule r) key (chain_questions (bytes_in r (codes "chain")) (last_segment_questions (mode.Mac (code_rule r)) padding.None (chain_in r) (text_size r)))

  verbs : (name : RequestName) (r : Request) → NoToken name r → Alike name → verb_questions other name r ≡ verb_questions s name r
  verbs Csnbdec r none alike =
      ap (λ (key : ClearKey). decipher_questions (text_size r) key (bytes_in r (codes "iv")) (pad_named (value_of r (codes "pad"))) (bytes_in r (codes "text")))
      (field_key r (codes "key") (first_none Csnbdec r none))
  verbs CsnbencLast r none alike =
      ap (λ (key : ClearKey). chain_questions (bytes_in r (codes "chain")) (last_text_questions mode.Encipher key (chain_in r) (pad_named (value_of r (codes "pad"))) (text_size r) (bytes_in r (codes "text"))))
      (field_key r (codes "key") (first_none CsnbencLast r none))
  verbs CsnbdecLast r none alike =
      ap (λ (key : ClearKey). chain_questions (bytes_in r (codes "chain")) (last_text_questions mode.Decipher key (chain_in r) (pad_named (value_of r (codes "pad"))) (text_size r) (bytes_in r (codes "text"))))
      (field_key r (codes "key") (first_none CsnbdecLast r none))
  verbs Csnbmgn r none alike =
      ap (λ (key : ClearKey). mac_questions (mac_rule_named (value_of r (codes "rule"))) (text_size r) key) (field_key r (codes "key") (first_none Csnbmgn r none))
  verbs Csnbmvr r none alike =
      ap (λ (key : ClearKey). mac_questions (mac_rule_named (value_of r (codes "rule"))) (text_size r) key) (field_key r (codes "key") (first_none Csnbmvr r none))
  verbs CsnbmgnFirst r none alike =
      ap (λ (key : ClearKey). code_key_questions (code_rule r) key (segment_questions (text_size r))) (field_key r (codes "key") (first_none CsnbmgnFirst r none))
  verbs CsnbmgnMiddle r none alike =
      ap (λ (key : ClearKey). code_key_questions (code_rule r) key (middle_questions r)) (field_key r (codes "key") (first_none CsnbmgnMiddle r none))
  verbs CsnbmgnLast r none alike = ap (last_code_by r) (field_key r (codes "key") (first_none CsnbmgnLast r none))
  verbs CsnbmvrFirst r none alike =
      ap (λ (key : ClearKey). code_key_questions (code_rule r) key (segment_questions (text_size r))) (field_key r (codes "key") (first_none CsnbmvrFirst r none))
  verbs CsnbmvrMiddle r none alike =
      ap (λ (key : ClearKey). code_key_questions (code_rule r) key (middle_questions r)) (field_key r (codes "key") (first_none CsnbmvrMiddle r none))
  verbs CsnbmvrLast r none alike = ap (last_code_by r) (field_key r (codes "key") (first_none CsnbmvrLast r none))
  verbs CsnbkpiMiddle r none alike =
      ap (λ (key : ClearKey). further_part_questions key.vector (part_size r)) (field_key r (codes "key") (first_none CsnbkpiMiddle r none))
  verbs Csnbktc r none alike = cc (first_none Csnbktc r none)
  verbs CsnbmkpPart r none alike = part_same (value_of r (codes "action"))
  verbs CsnbmkpSet r none alike = ap₂ set_question tests.2 (alike refl).current
  verbs ReencipherAhead r none alike = ap₂ set_question tests.2 (ap₂ (λ (a b : Bool). a || b) (alike refl).current (alike refl).former)
  verbs _ r none alike = refl

  verdict_same : (drawn : List ℕ) (r : Request) → NoToken r.name r → Alike r.name → verdict other drawn r ≡ verdict s drawn r
  verdict_same drawn r none alike =
      ap (λ (general : Option ℕ). by_parts drawn r general (operands_verdict other r) (verb_verdict other r)) (general_same r)
      ∙ ap₂ (λ (operand verb : Option Refusal). by_parts drawn r (first_failing (general_checks s r)) operand verb)
      (operands_same (listed (operands r)) (externals r.name r) none) (ap first_refusal (verbs r.name r none alike))

  -- ---- the reply

  delivered_same : (field : List ℕ) (to : Option (List ℕ)) (one two : Denoted) (fs gs : List Field) → is_none to ≡ false → fs ≡ gs
      → fields_after other (delivered_with other field to one fs) ≡ fields_after s (delivered_with s field to two gs)
  delivered_same field None one two fs gs is same_fields = cc is
  delivered_same field (Some label) one two fs gs is same_fields = ap (λ (more : List Field). let all : List Field = Text (codes "stored") label ∷ more in all) same_fields

  abbrev NoneShown : RequestName → Request → Type 0
  NoneShown name r = shows_internal name (value_of r (codes "to")) ≡ false

  shown : (drawn : List ℕ) (name : RequestName) (r : Request) → NoToken name r → NoneShown name r
      → fields_after other (effect other drawn name r) ≡ fields_after s (effect s drawn name r)
  shown drawn Csnbenc r none inside =
      ap (λ (key : ClearKey). let fs : List Field = Hex (codes "text") (enciphered_text key (bytes_in r (codes "iv")) (pad_named (value_of r (codes "pad"))) (bytes_in r (codes "text"))) ∷ [] in fs)
      (field_key r (codes "key") (first_none Csnbenc r none))
  shown drawn CsnbencFirst r none inside =
      ap (λ (key : ClearKey). segment_fields key mode.Encipher (first_chain (bytes_in r (codes "iv"))) (bytes_in r (codes "text"))) (field_key r (codes "key") (first_none CsnbencFirst r none))
  shown drawn CsnbencMiddle r none inside =
      ap (λ (key : ClearKey). segment_fields key mode.Encipher (chain_in r) (bytes_in r (codes "text"))) (field_key r (codes "key") (first_none CsnbencMiddle r none))
  shown drawn CsnbencLast r none inside =
      ap (λ (key : ClearKey). last_text_fields key mode.Encipher (chain_in r) (pad_named (value_of r (codes "pad"))) (bytes_in r (codes "text"))) (field_key r (codes "key") (first_none CsnbencLast r none))
  shown drawn Csnbdec r none inside =
      ap (λ (key : ClearKey). let fs : List Field = Hex (codes "text") (or_empty (deciphered_text key (bytes_in r (codes "iv")) (pad_named (value_of r (codes "pad"))) (bytes_in r (codes "text")))) ∷ [] in fs)
      (field_key r (codes "key") (first_none Csnbdec r none))
  shown drawn CsnbdecFirst r none inside =
      ap (λ (key : ClearKey). segment_fields key mode.Decipher (first_chain (bytes_in r (codes "iv"))) (bytes_in r (codes "text"))) (field_key r (codes "key") (first_none CsnbdecFirst r none))
  shown drawn CsnbdecMiddle r none inside =
      ap (λ (key : ClearKey). segment_fields key mode.Decipher (chain_in r) (bytes_in r (codes "text"))) (field_key r (codes "key") (first_none CsnbdecMiddle r none))
  shown drawn CsnbdecLast r none inside =
      ap (λ (key : ClearKey). last_text_fields key mode.Decipher (chain_in r) (pad_named (value_of r (codes "pad"))) (bytes_in r (codes "text"))) (field_key r (codes "key") (first_none CsnbdecLast r none))
  shown drawn Csnbmgn r none inside =
      ap (λ (key : ClearKey). let fs : List Field = Hex (codes "mac") (take (mac_length_named (value_of r (codes "length"))) (code_of (mac_rule_named (value_of r (codes "rule"))) key (bytes_in r (codes "text")))) ∷ [] in fs)
      (field_key r (codes "key") (first_none Csnbmgn r none))
  shown drawn CsnbmgnFirst r none inside =
      ap (λ (key : ClearKey). code_segment_fields key (code_rule r) (first_chain zero_block) (bytes_in r (codes "text"))) (field_key r (codes "key") (first_none CsnbmgnFirst r none))
  shown drawn CsnbmgnMiddle r none inside =
      ap (λ (key : ClearKey). code_segment_fields key (code_rule r) (chain_in r) (bytes_in r (codes "text"))) (field_key r (codes "key") (first_none CsnbmgnMiddle r none))
  shown drawn CsnbmgnLast r none inside =
      ap (λ (key : ClearKey). last_code_fields key (code_rule r) (chain_in r) (mac_length_named (value_of r (codes "length"))) (bytes_in r (codes "text"))) (field_key r (codes "key") (first_none CsnbmgnLast r none))
  shown drawn Csnbmvr r none inside =
      ap (λ (key : ClearKey). let fs : List Field = Text (codes "match") (yes_or_no (is_code (mac_rule_named (value_of r (codes "rule"))) key (bytes_in r (codes "text")) (bytes_in r (codes "mac")))) ∷ [] in fs)
      (field_key r (codes "key") (first_none Csnbmvr r none))
  shown drawn CsnbmvrFirst r none inside =
      ap (λ (key : ClearKey). code_segment_fields key (code_rule r) (first_chain zero_block) (bytes_in r (codes "text"))) (field_key r (codes "key") (first_none CsnbmvrFirst r none))
  shown drawn CsnbmvrMiddle r none inside =
      ap (λ (key : ClearKey). code_segment_fields key (code_rule r) (chain_in r) (bytes_in r (codes "text"))) (field_key r (codes "key") (first_none CsnbmvrMiddle r none))
  shown drawn CsnbmvrLast r none inside =
      ap (λ (key : ClearKey). last_match_fields key (code_rule r) (chain_in r) (bytes_in r (codes "mac")) (bytes_in r (codes "text"))) (field_key r (codes "key") (first_none CsnbmvrLast r none))
  shown drawn Csnbkyt r none inside =
      ap (λ (key : ClearKey). let fs : List Field = Hex (codes "value") (test_value key) ∷ [] in fs) (field_key r (codes "key") (first_none Csnbkyt r none))
  shown drawn Csnbcki r none inside = delivered_same _ (label_named (value_of r (codes "to"))) _ _ _ _ inside refl
  shown drawn CsnbkgnOp r none inside = delivered_same _ (label_named (value_of r (codes "to"))) _ _ _ _ inside refl
  shown drawn CsnbkgnPair r none inside =
      delivered_same _ (label_named (value_of r (codes "to"))) _ _ _ _ inside
      (ap (λ (two : ClearKey). let fs : List Field = Hex (codes "token2") (external_token two.key (generated_key (type2_of r) (length_in r) drawn)) ∷ [] in fs)
      (field_key r (codes "transport2") (first_none CsnbkgnPair r none)))
  shown drawn CsnbkgnOut r none inside =
      ap₂ (λ (one two : ClearKey). let fs : List Field = Hex (codes "token1") (external_token one.key (generated_key (type1_of r) (length_in r) drawn)) ∷ Hex (codes "token2") (external_token two.key (generated_key (type2_of r) (length_in r) drawn)) ∷ [] in fs)
      (field_key r (codes "transport1") (first_none CsnbkgnOut r none)) (field_key r (codes "transport2") (second_none CsnbkgnOut r none))
  shown drawn Csnbkim r none inside = delivered_same _ (label_named (value_of r (codes "to"))) _ _ _ _ inside refl
  shown drawn Csnbkex r none inside =
      ap₂ (λ (key transport : ClearKey). let fs : List Field = Hex (codes "token") (external_token transport.key key) ∷ [] in fs)
      (field_key r (codes "key") (first_none Csnbkex r none)) (field_key r (codes "transport") (second_none Csnbkex r none))
  shown drawn Csnbpex r none inside = delivered_same _ (label_named (value_of r (codes "to"))) _ _ _ _ inside refl
  shown drawn Csnbktc r none inside = cc (first_none Csnbktc r none)
  shown drawn CsnbkpiFirst r none inside = delivered_same _ (label_named (value_of r (codes "to"))) _ _ _ _ inside refl
  shown drawn CsnbkpiMiddle r none inside = delivered_same _ (label_named (value_of r (codes "to"))) _ _ _ _ inside refl
  shown drawn Csnbktr r none inside =
      ap₂ (λ (one two : ClearKey). let fs : List Field = Hex (codes "token") (external_token two.key (imported one (bytes_in r (codes "token")))) ∷ [] in fs)
      (field_key r (codes "transport1") (second_none Csnbktr r none)) (field_key r (codes "transport2") (third_none Csnbktr r none))
  shown drawn Csnbkrr r none inside = cc inside
  shown drawn CsnbmkpPart r none inside =
      part_cases
      (λ (a : Action). fields_after other (Become (after_action a (bytes_in r (codes "part")) m) s.labels)
      ≡ fields_after s (Become (after_action a (bytes_in r (codes "part")) s.registers) s.labels))
      refl refl refl (value_of r (codes "action"))
  shown drawn _ r none inside = refl

  reply_by : (drawn : List ℕ) (r : Request) (v : Option Refusal) → NoToken r.name r → NoneShown r.name r
      → (or_act v other drawn r).reply ≡ (or_act v s drawn r).reply
  reply_by drawn r (Some refusal) none inside = refl
  reply_by drawn r None none inside =
      ap₂ (λ (fs : List Field) (b : Bool). Done (fs ++ warning b)) (shown drawn r.name r none inside) (any_same (listed (operands r)) none)

  reply_same : (drawn : List ℕ) (r : Request) → uses_master_key r ≡ false → Alike r.name → (performed other drawn r).reply ≡ (performed s drawn r).reply
  unfolding performed
  reply_same drawn r uses alike =
      let parts = or_parts (any_internal_token (listed (operands r))) (shows_internal r.name (value_of r (codes "to"))) uses in
      ap (λ (v : Option Refusal). (or_act v other drawn r).reply) (verdict_same drawn r parts.0 alike)
      ∙ reply_by drawn r (verdict s drawn r) parts.0 parts.1

-- ---- the law

pub stay_inside : (s : State) (m : Masters) (drawn : List ℕ) (r : Request) → AreAsFull m s.registers → uses_master_key r ≡ false → compares_patterns r.name ≡ false
    → (performed (record s { registers = m }) drawn r).reply ≡ (performed s drawn r).reply
stay_inside s m drawn r same uses compares = reply_same s m same drawn r uses (λ is. cc (sym is ∙ compares))

no_master_key : (name : RequestName) (r : Request) → compares_patterns name ≡ true
    → (any_internal_token (listed (operands_of name r)) || shows_internal name (value_of r (codes "to"))) ≡ false
no_master_key CsnbmkpSet r is = refl
no_master_key ReencipherAhead r is = refl
no_master_key _ r is = cc is

pub compare_patterns : (s : State) (m : Masters) (drawn : List ℕ) (r : Request) → AreAsFull m s.registers → CompareAlike m s.registers → compares_patterns r.name ≡ true
    → (performed (record s { registers = m }) drawn r).reply ≡ (performed s drawn r).reply
compare_patterns s m drawn r same alike compares = reply_same s m same drawn r (no_master_key r.name r compares) (λ is. alike)
