-- The reply to a request depends on no label but those that it names, and on no byte of the new master key register.
use Rattle.std.proofs.Common.{◌≡◌, ℕ, Bool, true, false, not, List, [], ◌∷◌, ◌++◌, take, Option, None, Some, refl, sym, ap, ap₂, subst, ◌∙◌, codes, ◌||◌, ◌&&◌, true≢false}
use Rattle.std.specs.Prelude.{is_none, ⊤, if◌then◌else◌}
use Rattle.std.specs.Str.{bytes_eq}
use Rattle.cipher_verbs.specs.declared.padding.Pad.TheVariants as padding
use Rattle.des_blocks.specs.Modes.{zero_block}
use Rattle.key_parts.specs.Parts.{combined_key}
use Rattle.text_segments.specs.Chains.{first_chain}
use Rattle.text_segments.specs.declared.modes.Mode.TheVariants as mode
use Rattle.cca_vectors.specs.Checks.{Check, check, first_failing}
use Rattle.record_bodies.specs.Ages.{any_ahead_entry}
use Rattle.record_bodies.specs.Directory.{cell_of}
use Rattle.record_bodies.specs.Entries.{Entry, directory}
use Rattle.key_tokens.specs.Denotes.{ClearKey, Denoted, denoted}
use Rattle.key_transport.specs.Generated.{generated_key}
use Rattle.key_transport.specs.Tokens.{as_current, changed_token, closed_key, external_token, new_token}
use Rattle.key_transport.specs.declared.changing.Target.{Target}
use Rattle.key_transport.specs.declared.changing.Target.TheVariants.{Current, New}
use Rattle.mac_verbs.specs.Codes.{code_of, is_code}
use Rattle.master_registers.specs.Actions.{after_action}
use Rattle.master_registers.specs.Loaded.{pattern_in, registers_of}
use Rattle.master_registers.specs.Masters.{Masters, NewRegister, Empty, Partial, Full, is_empty, is_full, is_partial, state_of}
use Rattle.master_registers.specs.declared.actions.Action.{Action}
use Rattle.master_registers.specs.declared.actions.Action.TheVariants.{First, Middle, Last}
use Rattle.master_registers.specs.declared.registers.NewState.{NewState}
use Rattle.master_registers.specs.declared.registers.Registers.{Registers}
use Rattle.cipher_verbs.specs.CipherTexts.{enciphered_text, deciphered_text, test_value}
use Rattle.line_service.specs.Replies.{Field, Hex, Text, Done}
use Rattle.verb_rules.specs.Keys.{keys_of, token_for}
use Rattle.verb_rules.specs.KeyChecks.{key_checks, use_checks}
use Rattle.verb_rules.specs.declared.needs.Need.{Need}
use Rattle.verb_script.specs.Grammar.{Request, value_of}
use Rattle.verb_script.specs.declared.rows.RequestName.{RequestName}
use Rattle.verb_script.specs.declared.rows.RequestName.TheVariants.{Csnbenc, CsnbencFirst, CsnbencMiddle, CsnbencLast, Csnbdec, CsnbdecFirst, CsnbdecMiddle, CsnbdecLast, Csnbmgn, CsnbmgnFirst, CsnbmgnMiddle, CsnbmgnLast, Csnbmvr, CsnbmvrFirst, CsnbmvrMiddle, CsnbmvrLast, Csnbkyt, Csnbcki, CsnbkgnOp, CsnbkgnPair, CsnbkgnOut, Csnbkim, Csnbkex, Csnbpex, Csnbktc, CsnbkpiFirst, CsnbkpiMiddle, Csnbktr, Csnbkrc, Csnbkrr, Csnbkrl, CsnbmkpPart, CsnbmkpClear, CsnbmkpSet, Reencipher, ReencipherAhead, ReencipherDrop}
use Rattle.verb_script.specs.Named.{label_named}
use Rattle.verb_script.specs.Values.{hex_value}
use Rattle.cca_machine.specs.Act.{Become, code_segment_fields, last_code_fields, last_match_fields, last_text_fields, segment_fields, delivered_with, effect, fields_after, or_act, or_empty, performed, type1_of, type2_of, yes_or_no}
use Rattle.cca_machine.specs.Actions.{part_action}
use Rattle.cca_machine.specs.Choices.{is_last_part, pad_named, mac_rule_named, mac_length_named, target_named}
use Rattle.cca_machine.specs.Keys.{any_old, cell_with, imported, is_old, is_old_operand, key_bytes, key_in_field, key_in_text, key_named, key_of_label, key_of_request, key_of_token, or_no_key, warning, what_at}
use Rattle.cca_machine.specs.Operands.{Operand, five_classes, internal_key, listed, operands, operands_of}
use Rattle.cca_vectors.specs.declared.key_class.Class.TheVariants.{Data, Cipher, Mac}
use Rattle.cca_vectors.specs.declared.key_usage.Usage.TheVariants.{Encipher, Decipher, MacGenerate, MacVerify}
use Rattle.cca_machine.specs.Draws.{draw_of, length_in}
use Rattle.cca_machine.specs.State.{State}
use Rattle.cca_machine.specs.Verdict.{Refusal, Questions, chain_in, chain_questions, code_key_questions, code_rule, further_part_questions, last_segment_questions, last_text_questions, middle_questions, part_in, part_size, segment_questions, action_questions, bytes_in, change_questions, decipher_questions, draw_verdict, first_refusal, general_checks, held_checks, held_points, key_questions, label_check, lacks, mac_questions, needed_points, needs_master, operand_checks, operand_questions, or_last, or_refused, or_then, questions, record_checks, target_checks, text_size, verb_questions, verdict, whole_verb_verdict}
use Rattle.cca_machine.specs.declared.asking.Ask.{Ask}
use Rattle.cca_machine.specs.declared.asking.Ask.TheVariants.{AnyToken, Key, Token, External, Record, Held, NewLabel, Target as GoesTo, Nothing}
use Rattle.cca_laws.specs.MasterBytes.{asks_by_name, asks_new_key, is_new, uses_text_key, with_new}
use Rattle.cca_laws.specs.NamedLabels.{SameLabel, SameNamed, is_of_store, label_of}

-- the verdict, by the rules that are asked of the operands and those of the verb
abbrev by_questions : State → List ℕ → Request → List Questions → List Questions → Option Refusal
by_questions s random r operand verb =
    or_refused (first_failing (general_checks s r)) (codes "-")
    (or_then (first_refusal operand) (or_last (first_refusal verb) (draw_verdict (draw_of r.name r) random)))

-- ---- how full the new register is

pub register_tests : (a b : NewRegister) → state_of a ≡ state_of b → (is_empty a ≡ is_empty b) × (is_partial a ≡ is_partial b) × (is_full a ≡ is_full b)
register_tests Empty Empty is = (refl, refl, refl)
register_tests Empty (Partial y) is = cc is
register_tests Empty (Full y) is = cc is
register_tests (Partial x) Empty is = cc is
register_tests (Partial x) (Partial y) is = (refl, refl, refl)
register_tests (Partial x) (Full y) is = cc is
register_tests (Full x) Empty is = cc is
register_tests (Full x) (Partial y) is = cc is
register_tests (Full x) (Full y) is = (refl, refl, refl)

-- an action that takes a key part
pub part_cases : (P : Action → Type 0) → P First → P Middle → P Last → (text : List ℕ) → P (part_action text)
part_cases P first middle last text = by_first (bytes_eq text (codes "FIRST"))
  where
    by_middle : (t : Bool) → P (if t then Middle else Last)
    by_middle true = middle
    by_middle false = last

    by_first : (t : Bool) → P (if t then First else if bytes_eq text (codes "MIDDLE") then Middle else Last)
    by_first true = first
    by_first false = by_middle (bytes_eq text (codes "MIDDLE"))

module _ (s : State) (new : NewRegister) (others : List (Option Entry)) (same_state : state_of new ≡ state_of s.registers.coming) where
  -- the state with another new register, as full as before, and with other labels
  abbrev pub with_others : State
  with_others = record { registers = record s.registers { coming = new }; roles = s.roles; labels = others }

  registers_same : registers_of with_others.registers ≡ registers_of s.registers
  registers_same =
      ap (λ (n : NewState). let held : Registers = record { new_state = n; current_pattern = pattern_in s.registers.current; old_pattern = pattern_in s.registers.former } in held)
      same_state

  -- a token stands for the same key, and a key has the same token
  denoted_same : (bytes : List ℕ) → key_of_token with_others bytes ≡ key_of_token s bytes
  unfolding denoted
  denoted_same bytes = refl

  token_same : (key : Denoted) → token_for (keys_of with_others.registers) key ≡ token_for (keys_of s.registers) key
  unfolding token_for
  token_same key = refl

  -- what is known of an operand
  abbrev Known : List ℕ → Ask → Type 0
  Known text ask = (label : List ℕ) → label_of text ask ≡ Some label → SameLabel s with_others label

  -- ---- what is asked of an operand

  abbrev held_by : List ℕ → Bool → List Check
  held_by label free = label_check label ∷ check 7 free ∷ []

  abbrev record_by : List ℕ → Bool → Option Denoted → List Check
  record_by label free key = label_check label ∷ check 7 free ∷ check 8 (is_none key) ∷ []

  held_same : (label : List ℕ) → SameLabel s with_others label → held_checks with_others label ≡ held_checks s label
  held_same label same = ap (held_by label) same.held

  record_same : (label : List ℕ) → SameLabel s with_others label → record_checks with_others label ≡ record_checks s label
  record_same label same =
      ap (λ (free : Bool). record_by label free (key_of_label with_others label)) same.held
      ∙ ap (λ (key : Option Denoted). record_by label (is_none (cell_with s label)) key) same.key

  key_same : (need : Need) (text : List ℕ) (named : Option (List ℕ)) → ((label : List ℕ) → named ≡ Some label → SameLabel s with_others label)
      → key_questions with_others need named text ≡ key_questions s need named text
  key_same need text None known = ap (λ (held : Registers). key_checks need held (key_bytes text)) registers_same
  key_same need text (Some label) known =
      let same = known label refl in
      ap (λ (cs : List Check). cs ++ use_checks need (or_no_key (key_of_label with_others label)).clear.vector) (record_same label same)
      ∙ ap (λ (key : Option Denoted). record_checks s label ++ use_checks need (or_no_key key).clear.vector) same.key

  target_same : (named : Option (List ℕ)) → ((label : List ℕ) → named ≡ Some label → SameLabel s with_others label) → target_checks with_others named ≡ target_checks s named
  target_same None known = refl
  target_same (Some label) known = held_same label (known label refl)

  checks_same : (text : List ℕ) (ask : Ask) → Known text ask → operand_checks with_others text ask ≡ operand_checks s text ask
  checks_same text AnyToken known = refl
  checks_same text (Key need) known = key_same need text (label_named text) known
  checks_same text (Token need) known = ap (λ (held : Registers). key_checks need held (hex_value text)) registers_same
  checks_same text (External need) known = ap (λ (held : Registers). key_checks need held (hex_value text)) registers_same
  checks_same text Record known = record_same text (known text refl)
  checks_same text Held known = held_same text (known text refl)
  checks_same text NewLabel known = refl
  checks_same text GoesTo known = target_same (label_named text) known
  checks_same text Nothing known = refl

  questions_same : (os : List Operand) → SameNamed s with_others os → operand_questions with_others os ≡ operand_questions s os
  questions_same [] known = refl
  questions_same (o ∷ os) known =
      ap₂ (λ (cs : List Check) (qs : List Questions). questions o.name cs ∷ qs) (checks_same o.text o.ask known.0) (questions_same os known.1)

  -- ---- the keys of a request

  named_same : (text : List ℕ) (named : Option (List ℕ)) → ((label : List ℕ) → named ≡ Some label → SameLabel s with_others label)
      → key_named with_others named text ≡ key_named s named text
  named_same text None known = denoted_same (key_bytes text)
  named_same text (Some label) known = (known label refl).key

  -- the same is known of the label that a text names
  abbrev KnownIn : List ℕ → Type 0
  KnownIn text = (label : List ℕ) → label_named text ≡ Some label → SameLabel s with_others label

  text_same : (text : List ℕ) → KnownIn text → key_in_text with_others text ≡ key_in_text s text
  text_same text known = named_same text (label_named text) known

  abbrev clear_or : Option Denoted → ClearKey
  clear_or key = (or_no_key key).clear

  field_same : (r : Request) (name : List ℕ) → KnownIn (value_of r name) → key_in_field with_others r name ≡ key_in_field s r name
  field_same r name known = ap clear_or (text_same (value_of r name) known)

  -- ---- the warning

  old_same : (text : List ℕ) (ask : Ask) → Known text ask → is_old_operand with_others text ask ≡ is_old_operand s text ask
  old_same text AnyToken known = refl
  old_same text (Key need) known = ap is_old (text_same text known)
  old_same text (Token need) known = ap is_old (denoted_same (hex_value text))
  old_same text (External need) known = refl
  old_same text Record known = ap is_old (known text refl).key
  old_same text Held known = refl
  old_same text NewLabel known = refl
  old_same text GoesTo known = refl
  old_same text Nothing known = refl

  any_same : (os : List Operand) → SameNamed s with_others os → any_old with_others os ≡ any_old s os
  any_same [] known = refl
  any_same (o ∷ os) known = ap₂ (λ (a b : Bool). a || b) (old_same o.text o.ask known.0) (any_same os known.1)

  -- ---- the verb's rules

  tests : (is_empty new ≡ is_empty s.registers.coming) × (is_partial new ≡ is_partial s.registers.coming) × (is_full new ≡ is_full s.registers.coming)
  tests = register_tests new s.registers.coming same_state

  abbrev state_question : Bool → List Questions
  state_question wrong = questions (codes "-") (check 25 wrong ∷ check 26 false ∷ []) ∷ []

  part_same : (text : List ℕ) → action_questions with_others (part_action text) ≡ action_questions s (part_action text)
  part_same text =
      part_cases (λ (a : Action). action_questions with_others a ≡ action_questions s a)
      (ap (λ b. state_question (not b)) tests.0) (ap (λ b. state_question (not b)) tests.1) (ap (λ b. state_question (not b)) tests.1) text

  change_same : (t : Target) → change_questions with_others t ≡ change_questions s t
  change_same Current = refl
  change_same New = ap (λ b. let qs : List Questions = questions (codes "-") (check 25 (not b) ∷ []) ∷ [] in qs) tests.2

  pub verb_same : (name : RequestName) (r : Request) → is_of_store name ≡ false → SameNamed s with_others (listed (operands_of name r))
      → verb_questions with_others name r ≡ verb_questions s name r
  verb_same Csnbdec r elsewhere known =
      ap (λ (key : ClearKey). decipher_questions (text_size r) key (bytes_in r (codes "iv")) (pad_named (value_of r (codes "pad"))) (bytes_in r (codes "text")))
      (field_same r (codes "key") known.0)
  verb_same CsnbencLast r elsewhere known =
      ap (λ (key : ClearKey). chain_questions (bytes_in r (codes "chain")) (last_text_questions mode.Encipher key (chain_in r) (pad_named (value_of r (codes "pad"))) (text_size r) (bytes_in r (codes "text")))) (field_same r (codes "key") known.0)
  verb_same CsnbdecLast r elsewhere known =
      ap (λ (key : ClearKey). chain_questions (bytes_in r (codes "chain")) (last_text_questions mode.Decipher key (chain_in r) (pad_named (value_of r (codes "pad"))) (text_size r) (bytes_in r (codes "text")))) (field_same r (codes "key") known.0)
  verb_same Csnbmgn r elsewhere known =
      ap (λ (key : ClearKey). mac_questions (mac_rule_named (value_of r (codes "rule"))) (text_size r) key) (field_same r (codes "key") known.0)
  verb_same CsnbmgnFirst r elsewhere known =
      ap (λ (key : ClearKey). code_key_questions (code_rule r) key (segment_questions (text_size r))) (field_same r (codes "key") known.0)
  verb_same CsnbmgnMiddle r elsewhere known =
      ap (λ (key : ClearKey). code_key_questions (code_rule r) key (middle_questions r)) (field_same r (codes "key") known.0)
  verb_same CsnbmgnLast r elsewhere known =
      ap (λ (key : ClearKey). code_key_questions (code_rule r) key (chain_questions (bytes_in r (codes "chain")) (last_segment_questions (mode.Mac (code_rule r)) padding.None (chain_in r) (text_size r)))) (field_same r (codes "key") known.0)
  verb_same Csnbmvr r elsewhere known =
      ap (λ (key : ClearKey). mac_questions (mac_rule_named (value_of r (codes "rule"))) (text_size r) key) (field_same r (codes "key") known.0)
  verb_same CsnbmvrFirst r elsewhere known =
      ap (λ (key : ClearKey). code_key_questions (code_rule r) key (segment_questions (text_size r))) (field_same r (codes "key") known.0)
  verb_same CsnbmvrMiddle r elsewhere known =
      ap (λ (key : ClearKey). code_key_questions (code_rule r) key (middle_questions r)) (field_same r (codes "key") known.0)
  verb_same CsnbmvrLast r elsewhere known =
      ap (λ (key : ClearKey). code_key_questions (code_rule r) key (chain_questions (bytes_in r (codes "chain")) (last_segment_questions (mode.Mac (code_rule r)) padding.None (chain_in r) (text_size r)))) (field_same r (codes "key") known.0)
  verb_same CsnbkpiMiddle r elsewhere known =
      ap (λ (key : ClearKey). further_part_questions key.vector (part_size r)) (field_same r (codes "key") known.0)
  verb_same Csnbktc r elsewhere known = change_same (target_named (value_of r (codes "rule")))
  verb_same CsnbmkpPart r elsewhere known = part_same (value_of r (codes "action"))
  verb_same Csnbkrc r elsewhere known = cc elsewhere
  verb_same CsnbmkpClear r elsewhere known = cc elsewhere
  verb_same CsnbmkpSet r elsewhere known = cc elsewhere
  verb_same ReencipherAhead r elsewhere known = cc elsewhere
  verb_same _ r elsewhere known = refl

  pub verdict_same : (drawn : List ℕ) (r : Request) → SameNamed s with_others (listed (operands r)) → verb_questions with_others r.name r ≡ verb_questions s r.name r
      → verdict with_others drawn r ≡ verdict s drawn r
  verdict_same drawn r known verbs =
      ap₂ (λ (operand verb : List Questions). by_questions s drawn r operand verb)
      (questions_same (listed (operands r)) known) verbs

  -- ---- the fields of the reply

  abbrev fields_of : State → List ℕ → RequestName → Request → List Field
  fields_of t drawn name r = fields_after t (effect t drawn name r)

  delivered_same : (field : List ℕ) (to : Option (List ℕ)) (key : Denoted) (fields : List Field)
      → fields_after with_others (delivered_with with_others field to key fields) ≡ fields_after s (delivered_with s field to key fields)
  delivered_same field None key fields = ap (λ (token : List ℕ). let fs : List Field = Hex field token ∷ fields in fs) (token_same key)
  delivered_same field (Some label) key fields = refl

  -- a token is changed to the new master key only where the new register is the same
  abbrev pub SameIfNew : RequestName → Request → Type 0
  SameIfNew Csnbktc r = is_new (target_named (value_of r (codes "rule"))) ≡ true → new ≡ s.registers.coming
  SameIfNew _ r = ⊤

  changed_same : (t : Target) (clear : ClearKey) → (is_new t ≡ true → new ≡ s.registers.coming) → changed_token with_others.registers t clear ≡ changed_token s.registers t clear
  changed_same Current clear same = token_same (as_current clear)
  changed_same New clear same = ap (λ (c : NewRegister). new_token (record s.registers { coming = c }) clear) (same refl)

  pub fields_same : (drawn : List ℕ) (name : RequestName) (r : Request) → is_of_store name ≡ false → SameNamed s with_others (listed (operands_of name r)) → SameIfNew name r
      → fields_of with_others drawn name r ≡ fields_of s drawn name r
  fields_same drawn Csnbenc r elsewhere known keys =
      ap (λ (key : ClearKey). let fs : List Field = Hex (codes "text") (enciphered_text key (bytes_in r (codes "iv")) (pad_named (value_of r (codes "pad"))) (bytes_in r (codes "text"))) ∷ [] in fs)
      (field_same r (codes "key") known.0)
  fields_same drawn Csnbdec r elsewhere known keys =
      ap (λ (key : ClearKey). let fs : List Field = Hex (codes "text") (or_empty (deciphered_text key (bytes_in r (codes "iv")) (pad_named (value_of r (codes "pad"))) (bytes_in r (codes "text")))) ∷ [] in fs)
      (field_same r (codes "key") known.0)
  fields_same drawn Csnbmgn r elsewhere known keys =
      ap (λ (key : ClearKey). let fs : List Field = Hex (codes "mac") (take (mac_length_named (value_of r (codes "length"))) (code_of (mac_rule_named (value_of r (codes "rule"))) key (bytes_in r (codes "text")))) ∷ [] in fs)
      (field_same r (codes "key") known.0)
  fields_same drawn Csnbmvr r elsewhere known keys =
      ap (λ (key : ClearKey). let fs : List Field = Text (codes "match") (yes_or_no (is_code (mac_rule_named (value_of r (codes "rule"))) key (bytes_in r (codes "text")) (bytes_in r (codes "mac")))) ∷ [] in fs)
      (field_same r (codes "key") known.0)
  fields_same drawn CsnbencFirst r elsewhere known keys =
      ap (λ (key : ClearKey). segment_fields key mode.Encipher (first_chain (bytes_in r (codes "iv"))) (bytes_in r (codes "text"))) (field_same r (codes "key") known.0)
  fields_same drawn CsnbencMiddle r elsewhere known keys =
      ap (λ (key : ClearKey). segment_fields key mode.Encipher (chain_in r) (bytes_in r (codes "text"))) (field_same r (codes "key") known.0)
  fields_same drawn CsnbencLast r elsewhere known keys =
      ap (λ (key : ClearKey). last_text_fields key mode.Encipher (chain_in r) (pad_named (value_of r (codes "pad"))) (bytes_in r (codes "text"))) (field_same r (codes "key") known.0)
  fields_same drawn CsnbdecFirst r elsewhere known keys =
      ap (λ (key : ClearKey). segment_fields key mode.Decipher (first_chain (bytes_in r (codes "iv"))) (bytes_in r (codes "text"))) (field_same r (codes "key") known.0)
  fields_same drawn CsnbdecMiddle r elsewhere known keys =
      ap (λ (key : ClearKey). segment_fields key mode.Decipher (chain_in r) (bytes_in r (codes "text"))) (field_same r (codes "key") known.0)
  fields_same drawn CsnbdecLast r elsewhere known keys =
      ap (λ (key : ClearKey). last_text_fields key mode.Decipher (chain_in r) (pad_named (value_of r (codes "pad"))) (bytes_in r (codes "text"))) (field_same r (codes "key") known.0)
  fields_same drawn CsnbmgnFirst r elsewhere known keys =
      ap (λ (key : ClearKey). code_segment_fields key (code_rule r) (first_chain zero_block) (bytes_in r (codes "text"))) (field_same r (codes "key") known.0)
  fields_same drawn CsnbmgnMiddle r elsewhere known keys =
      ap (λ (key : ClearKey). code_segment_fields key (code_rule r) (chain_in r) (bytes_in r (codes "text"))) (field_same r (codes "key") known.0)
  fields_same drawn CsnbmvrFirst r elsewhere known keys =
      ap (λ (key : ClearKey). code_segment_fields key (code_rule r) (first_chain zero_block) (bytes_in r (codes "text"))) (field_same r (codes "key") known.0)
  fields_same drawn CsnbmvrMiddle r elsewhere known keys =
      ap (λ (key : ClearKey). code_segment_fields key (code_rule r) (chain_in r) (bytes_in r (codes "text"))) (field_same r (codes "key") known.0)
  fields_same drawn CsnbmgnLast r elsewhere known keys =
      ap (λ (key : ClearKey). last_code_fields key (code_rule r) (chain_in r) (mac_length_named (value_of r (codes "length"))) (bytes_in r (codes "text"))) (field_same r (codes "key") known.0)
  fields_same drawn CsnbmvrLast r elsewhere known keys =
      ap (λ (key : ClearKey). last_match_fields key (code_rule r) (chain_in r) (bytes_in r (codes "mac")) (bytes_in r (codes "text"))) (field_same r (codes "key") known.0)
  fields_same drawn CsnbkpiFirst r elsewhere known keys = delivered_same _ (label_named (value_of r (codes "to"))) _ _
  fields_same drawn CsnbkpiMiddle r elsewhere known keys =
      delivered_same _ (label_named (value_of r (codes "to"))) _ _
      ∙ ap (λ (key : ClearKey). fields_after s (delivered_with s (codes "token") (label_named (value_of r (codes "to"))) (as_current (combined_key (is_last_part (value_of r (codes "rule"))) key (part_in r))) []))
      (field_same r (codes "key") known.0)
  fields_same drawn Csnbktr r elsewhere known keys =
      ap₂ (λ (one two : ClearKey). let fs : List Field = Hex (codes "token") (external_token two.key (imported one (bytes_in r (codes "token")))) ∷ [] in fs)
      (field_same r (codes "transport1") known.1.0) (field_same r (codes "transport2") known.1.1.0)
  fields_same drawn Csnbkyt r elsewhere known keys =
      ap (λ (key : ClearKey). let fs : List Field = Hex (codes "value") (test_value key) ∷ [] in fs) (field_same r (codes "key") known.0)
  fields_same drawn Csnbcki r elsewhere known keys = delivered_same _ (label_named (value_of r (codes "to"))) _ _
  fields_same drawn CsnbkgnOp r elsewhere known keys = delivered_same _ (label_named (value_of r (codes "to"))) _ _
  fields_same drawn CsnbkgnPair r elsewhere known keys =
      delivered_same _ (label_named (value_of r (codes "to"))) _ _
      ∙ ap (λ (key : ClearKey). fields_after s (delivered_with s (codes "token1") (label_named (value_of r (codes "to"))) (as_current (generated_key (type1_of r) (length_in r) drawn))
      (Hex (codes "token2") (external_token key.key (generated_key (type2_of r) (length_in r) drawn)) ∷ [])))
      (field_same r (codes "transport2") known.0)
  fields_same drawn CsnbkgnOut r elsewhere known keys =
      ap₂ (λ (one two : ClearKey). let fs : List Field = Hex (codes "token1") (external_token one.key (generated_key (type1_of r) (length_in r) drawn)) ∷ Hex (codes "token2") (external_token two.key (generated_key (type2_of r) (length_in r) drawn)) ∷ [] in fs)
      (field_same r (codes "transport1") known.0) (field_same r (codes "transport2") known.1.0)
  fields_same drawn Csnbkim r elsewhere known keys =
      delivered_same _ (label_named (value_of r (codes "to"))) _ _
      ∙ ap (λ (key : ClearKey). fields_after s (delivered_with s (codes "token") (label_named (value_of r (codes "to"))) (as_current (imported key (bytes_in r (codes "token")))) []))
      (field_same r (codes "transport") known.1.0)
  fields_same drawn Csnbkex r elsewhere known keys =
      ap₂ (λ (key transport : ClearKey). let fs : List Field = Hex (codes "token") (external_token transport.key key) ∷ [] in fs)
      (field_same r (codes "key") known.0) (field_same r (codes "transport") known.1.0)
  fields_same drawn Csnbpex r elsewhere known keys =
      delivered_same _ (label_named (value_of r (codes "to"))) _ _
      ∙ ap (λ (key : ClearKey). fields_after s (delivered_with s (codes "token") (label_named (value_of r (codes "to"))) (as_current (closed_key key)) []))
      (field_same r (codes "key") known.0)
  fields_same drawn Csnbktc r elsewhere known keys =
      ap (λ (token : List ℕ). let fs : List Field = Hex (codes "token") token ∷ [] in fs)
      (ap (λ (key : Option Denoted). changed_token with_others.registers (target_named (value_of r (codes "rule"))) (or_no_key key).clear)
      (denoted_same (bytes_in r (codes "token")))
      ∙ changed_same (target_named (value_of r (codes "rule"))) (or_no_key (key_of_token s (bytes_in r (codes "token")))).clear keys)
  fields_same drawn CsnbmkpPart r elsewhere known keys =
      part_cases
      (λ (a : Action). fields_after with_others (Become (after_action a (bytes_in r (codes "part")) with_others.registers) others)
      ≡ fields_after s (Become (after_action a (bytes_in r (codes "part")) s.registers) s.labels))
      refl refl refl (value_of r (codes "action"))
  fields_same drawn Csnbkrr r elsewhere known keys =
      ap (λ (token : List ℕ). let fs : List Field = Hex (codes "token") token ∷ [] in fs)
      (token_same (or_no_key (key_of_label with_others (value_of r (codes "label"))))
      ∙ ap (λ (key : Option Denoted). token_for (keys_of s.registers) (or_no_key key)) (known.0 (value_of r (codes "label")) refl).key)
  fields_same drawn Csnbkrl r elsewhere known keys = cc elsewhere
  fields_same drawn CsnbmkpSet r elsewhere known keys = cc elsewhere
  fields_same drawn Reencipher r elsewhere known keys = cc elsewhere
  fields_same drawn ReencipherAhead r elsewhere known keys = cc elsewhere
  fields_same drawn ReencipherDrop r elsewhere known keys = cc elsewhere
  fields_same drawn _ r elsewhere known keys = refl

  -- ---- the reply

  reply_by : (drawn : List ℕ) (r : Request) (v : Option Refusal)
      → fields_of with_others drawn r.name r ≡ fields_of s drawn r.name r → any_old with_others (listed (operands r)) ≡ any_old s (listed (operands r))
      → (or_act v with_others drawn r).reply ≡ (or_act v s drawn r).reply
  reply_by drawn r (Some refusal) fields old = refl
  reply_by drawn r None fields old = ap₂ (λ (fs : List Field) (b : Bool). Done (fs ++ warning b)) fields old

  pub replies_same : (drawn : List ℕ) (r : Request) → SameNamed s with_others (listed (operands r)) → verb_questions with_others r.name r ≡ verb_questions s r.name r
      → fields_of with_others drawn r.name r ≡ fields_of s drawn r.name r → (performed with_others drawn r).reply ≡ (performed s drawn r).reply
  unfolding performed
  replies_same drawn r known verbs fields =
      ap (λ (v : Option Refusal). (or_act v with_others drawn r).reply) (verdict_same drawn r known verbs)
      ∙ reply_by drawn r (verdict s drawn r) fields (any_same (listed (operands r)) known)

-- ---- other labels

not_new : (s : State) (others : List (Option Entry)) (name : RequestName) (r : Request) → SameIfNew s s.registers.coming others refl name r
not_new s others Csnbktc r = λ is. refl
not_new s others _ r = tt

pub same_reply : (s : State) (others : List (Option Entry)) (drawn : List ℕ) (r : Request) → is_of_store r.name ≡ false
    → SameNamed s (record s { labels = others }) (listed (operands r)) → (performed (record s { labels = others }) drawn r).reply ≡ (performed s drawn r).reply
same_reply s others drawn r elsewhere known =
    replies_same s s.registers.coming others refl drawn r known (verb_same s s.registers.coming others refl r.name r elsewhere known)
    (fields_same s s.registers.coming others refl drawn r.name r elsewhere known (not_new s others r.name r))

abbrev with_labels : State → List (Option Entry) → State
with_labels s others = record s { labels = others }

-- CLEAR looks at no label, but for whether one is ahead
pub same_clear : (s : State) (others : List (Option Entry)) (drawn : List ℕ) (r : Request) → r.name ≡ CsnbmkpClear → any_ahead_entry others ≡ any_ahead_entry s.labels
    → (performed (record s { labels = others }) drawn r).reply ≡ (performed s drawn r).reply
same_clear s others drawn r is ahead =
    replies_same s s.registers.coming others refl drawn r
    (subst (λ (n : RequestName). SameNamed s (with_labels s others) (listed (operands_of n r))) (sym is) names_none)
    (subst (λ (n : RequestName). verb_questions (with_labels s others) n r ≡ verb_questions s n r) (sym is) clear_verb)
    (subst (λ (n : RequestName). fields_after (with_labels s others) (effect (with_labels s others) drawn n r) ≡ fields_after s (effect s drawn n r)) (sym is) refl)
  where
    no_label : (label : List ℕ) → None ≡ Some label → SameLabel s (with_labels s others) label
    no_label label is = cc is

    names_none : SameNamed s (with_labels s others) (listed (operands_of CsnbmkpClear r))
    names_none = (no_label, (no_label, (no_label, tt)))

    clear_verb : verb_questions (with_labels s others) CsnbmkpClear r ≡ verb_questions s CsnbmkpClear r
    clear_verb = ap (λ (b : Bool). let qs : List Questions = questions (codes "-") (check 25 false ∷ check 26 false ∷ check 33 b ∷ []) ∷ [] in qs) ahead

-- ---- another new register

same_named : (s t : State) → t.labels ≡ s.labels → (os : List Operand) → SameNamed s t os
same_named s t same [] = tt
same_named s t same (o ∷ os) = (
  (λ label is. record {
    held = ap (λ (ls : List (Option Entry)). is_none (cell_of label (directory ls))) same;
    key = ap (λ (ls : List (Option Entry)). what_at ls (cell_of label (directory ls))) same;
  }),
  same_named s t same os,
)

module _ (s : State) (one other : NewRegister) (same : state_of other ≡ state_of one) where
  abbrev first : State
  first = with_new s one

  abbrev second : State
  second = with_new s other

  known_all : (r : Request) → SameNamed first second (listed (operands r))
  known_all r = same_named first second refl (listed (operands r))

  new_verb : (name : RequestName) (r : Request) → asks_by_name name (value_of r (codes "rule")) ≡ false → SameNamed first second (listed (operands_of name r))
      → verb_questions second name r ≡ verb_questions first name r
  new_verb Csnbkrc r asks known = refl
  new_verb Csnbkrl r asks known = refl
  new_verb Reencipher r asks known = refl
  new_verb ReencipherAhead r asks known = cc asks
  new_verb ReencipherDrop r asks known = refl
  new_verb CsnbmkpClear r asks known = refl
  new_verb CsnbmkpSet r asks known = cc asks
  new_verb name r asks known = verb_same first other s.labels same name r refl known

  never_new : (t : Target) → is_new t ≡ false → is_new t ≡ true → other ≡ one
  never_new t not_it it = absurd (true≢false (sym it ∙ not_it))

  new_fields : (drawn : List ℕ) (name : RequestName) (r : Request) → asks_by_name name (value_of r (codes "rule")) ≡ false
      → SameNamed first second (listed (operands_of name r)) → fields_after second (effect second drawn name r) ≡ fields_after first (effect first drawn name r)
  new_fields drawn Csnbkrc r asks known = refl
  new_fields drawn Csnbkrl r asks known = refl
  new_fields drawn Reencipher r asks known = refl
  new_fields drawn ReencipherAhead r asks known = cc asks
  new_fields drawn ReencipherDrop r asks known = refl
  new_fields drawn CsnbmkpClear r asks known = refl
  new_fields drawn CsnbmkpSet r asks known = cc asks
  new_fields drawn Csnbktc r asks known =
      fields_same first other s.labels same drawn Csnbktc r refl known (never_new (target_named (value_of r (codes "rule"))) asks)
  new_fields drawn name r asks known = fields_same first other s.labels same drawn name r refl known tt

  pub new_reply : (drawn : List ℕ) (r : Request) → asks_new_key r ≡ false → (performed second drawn r).reply ≡ (performed first drawn r).reply
  new_reply drawn r asks =
      replies_same first other s.labels same drawn r (known_all r) (new_verb r.name r asks (known_all r)) (new_fields drawn r.name r asks (known_all r))

-- ---- other master keys

module _ (s : State) (m : Masters) (same : is_none m.current ≡ is_none s.registers.current) where
  abbrev with_masters : State
  with_masters = record s { registers = m }

  abbrev general_by : Request → Bool → List Check
  general_by r empty =
      check 3 (is_none (held_points s r)) ∷ check 4 (lacks (held_points s r) (needed_points r.name r)) ∷ check 5 (needs_master r.name && empty) ∷ []

  labelled_key : (text label : List ℕ) → label_named text ≡ Some label → key_in_text with_masters text ≡ key_in_text s text
  labelled_key text label is =
      ap (λ (o : Option (List ℕ)). key_named with_masters o text) is ∙ sym (ap (λ (o : Option (List ℕ)). key_named s o text) is)

  labelled_checks : (need : Need) (text label : List ℕ) → label_named text ≡ Some label → operand_checks with_masters text (Key need) ≡ operand_checks s text (Key need)
  labelled_checks need text label is =
      ap (λ (o : Option (List ℕ)). key_questions with_masters need o text) is ∙ sym (ap (λ (o : Option (List ℕ)). key_questions s need o text) is)

  module _ (drawn label : List ℕ) (r : Request) (named : label_named (value_of r (codes "key")) ≡ Some label) where
    key_is : key_of_request with_masters r ≡ key_of_request s r
    key_is = ap (λ (key : Option Denoted). (or_no_key key).clear) (labelled_key (value_of r (codes "key")) label named)

    -- the operand `key`, alone
    abbrev key_questions_by : List Check → List Questions
    key_questions_by cs = questions (codes "key") cs ∷ questions (codes "-") [] ∷ questions (codes "-") [] ∷ []

    text_operands : (name : RequestName) → uses_text_key name ≡ true
        → operand_questions with_masters (listed (operands_of name r)) ≡ operand_questions s (listed (operands_of name r))
    text_operands Csnbenc uses = ap key_questions_by (labelled_checks (internal_key (Data ∷ Cipher ∷ []) (Some Encipher)) (value_of r (codes "key")) label named)
    text_operands Csnbdec uses = ap key_questions_by (labelled_checks (internal_key (Data ∷ Cipher ∷ []) (Some Decipher)) (value_of r (codes "key")) label named)
    text_operands Csnbmgn uses = ap key_questions_by (labelled_checks (internal_key (Data ∷ Mac ∷ []) (Some MacGenerate)) (value_of r (codes "key")) label named)
    text_operands Csnbmvr uses = ap key_questions_by (labelled_checks (internal_key (Data ∷ Mac ∷ []) (Some MacVerify)) (value_of r (codes "key")) label named)
    text_operands CsnbencFirst uses = ap key_questions_by (labelled_checks (internal_key (Data ∷ Cipher ∷ []) (Some Encipher)) (value_of r (codes "key")) label named)
    text_operands CsnbencMiddle uses = ap key_questions_by (labelled_checks (internal_key (Data ∷ Cipher ∷ []) (Some Encipher)) (value_of r (codes "key")) label named)
    text_operands CsnbencLast uses = ap key_questions_by (labelled_checks (internal_key (Data ∷ Cipher ∷ []) (Some Encipher)) (value_of r (codes "key")) label named)
    text_operands CsnbdecFirst uses = ap key_questions_by (labelled_checks (internal_key (Data ∷ Cipher ∷ []) (Some Decipher)) (value_of r (codes "key")) label named)
    text_operands CsnbdecMiddle uses = ap key_questions_by (labelled_checks (internal_key (Data ∷ Cipher ∷ []) (Some Decipher)) (value_of r (codes "key")) label named)
    text_operands CsnbdecLast uses = ap key_questions_by (labelled_checks (internal_key (Data ∷ Cipher ∷ []) (Some Decipher)) (value_of r (codes "key")) label named)
    text_operands CsnbmgnFirst uses = ap key_questions_by (labelled_checks (internal_key (Data ∷ Mac ∷ []) (Some MacGenerate)) (value_of r (codes "key")) label named)
    text_operands CsnbmgnMiddle uses = ap key_questions_by (labelled_checks (internal_key (Data ∷ Mac ∷ []) (Some MacGenerate)) (value_of r (codes "key")) label named)
    text_operands CsnbmgnLast uses = ap key_questions_by (labelled_checks (internal_key (Data ∷ Mac ∷ []) (Some MacGenerate)) (value_of r (codes "key")) label named)
    text_operands CsnbmvrFirst uses = ap key_questions_by (labelled_checks (internal_key (Data ∷ Mac ∷ []) (Some MacVerify)) (value_of r (codes "key")) label named)
    text_operands CsnbmvrMiddle uses = ap key_questions_by (labelled_checks (internal_key (Data ∷ Mac ∷ []) (Some MacVerify)) (value_of r (codes "key")) label named)
    text_operands CsnbmvrLast uses = ap key_questions_by (labelled_checks (internal_key (Data ∷ Mac ∷ []) (Some MacVerify)) (value_of r (codes "key")) label named)
    text_operands Csnbkyt uses = ap key_questions_by (labelled_checks (internal_key five_classes None) (value_of r (codes "key")) label named)
    text_operands _ uses = cc uses

    -- what is asked of the last segment of a code
    abbrev last_code_by : ClearKey → List Questions
    last_code_by key =
        code_key_questions (code_rule r) key (chain_questions (bytes_in r (codes "chain")) (last_segment_questions (mode.Mac (code_rule r)) padding.None (chain_in r) (text_size r)))

    text_verb : (name : RequestName) → uses_text_key name ≡ true → verb_questions with_masters name r ≡ verb_questions s name r
    text_verb Csnbenc uses = refl
    text_verb Csnbdec uses =
        ap (λ (key : ClearKey). decipher_questions (text_size r) key (bytes_in r (codes "iv")) (pad_named (value_of r (codes "pad"))) (bytes_in r (codes "text"))) key_is
    text_verb Csnbmgn uses = ap (λ (key : ClearKey). mac_questions (mac_rule_named (value_of r (codes "rule"))) (text_size r) key) key_is
    text_verb Csnbmvr uses = ap (λ (key : ClearKey). mac_questions (mac_rule_named (value_of r (codes "rule"))) (text_size r) key) key_is
    text_verb CsnbencFirst uses = refl
    text_verb CsnbencMiddle uses = refl
    text_verb CsnbencLast uses =
        ap (λ (key : ClearKey). chain_questions (bytes_in r (codes "chain")) (last_text_questions mode.Encipher key (chain_in r) (pad_named (value_of r (codes "pad"))) (text_size r) (bytes_in r (codes "text")))) key_is
    text_verb CsnbdecFirst uses = refl
    text_verb CsnbdecMiddle uses = refl
    text_verb CsnbdecLast uses =
        ap (λ (key : ClearKey). chain_questions (bytes_in r (codes "chain")) (last_text_questions mode.Decipher key (chain_in r) (pad_named (value_of r (codes "pad"))) (text_size r) (bytes_in r (codes "text")))) key_is
    text_verb CsnbmgnFirst uses = ap (λ (key : ClearKey). code_key_questions (code_rule r) key (segment_questions (text_size r))) key_is
    text_verb CsnbmgnMiddle uses = ap (λ (key : ClearKey). code_key_questions (code_rule r) key (middle_questions r)) key_is
    text_verb CsnbmgnLast uses = ap last_code_by key_is
    text_verb CsnbmvrFirst uses = ap (λ (key : ClearKey). code_key_questions (code_rule r) key (segment_questions (text_size r))) key_is
    text_verb CsnbmvrMiddle uses = ap (λ (key : ClearKey). code_key_questions (code_rule r) key (middle_questions r)) key_is
    text_verb CsnbmvrLast uses = ap last_code_by key_is
    text_verb Csnbkyt uses = refl
    text_verb _ uses = cc uses

    text_fields : (name : RequestName) → uses_text_key name ≡ true → fields_after with_masters (effect with_masters drawn name r) ≡ fields_after s (effect s drawn name r)
    text_fields Csnbenc uses =
        ap (λ (key : ClearKey). let fs : List Field = Hex (codes "text") (enciphered_text key (bytes_in r (codes "iv")) (pad_named (value_of r (codes "pad"))) (bytes_in r (codes "text"))) ∷ [] in fs) key_is
    text_fields Csnbdec uses =
        ap (λ (key : ClearKey). let fs : List Field = Hex (codes "text") (or_empty (deciphered_text key (bytes_in r (codes "iv")) (pad_named (value_of r (codes "pad"))) (bytes_in r (codes "text")))) ∷ [] in fs) key_is
    text_fields Csnbmgn uses =
        ap (λ (key : ClearKey). let fs : List Field = Hex (codes "mac") (take (mac_length_named (value_of r (codes "length"))) (code_of (mac_rule_named (value_of r (codes "rule"))) key (bytes_in r (codes "text")))) ∷ [] in fs) key_is
    text_fields Csnbmvr uses =
        ap (λ (key : ClearKey). let fs : List Field = Text (codes "match") (yes_or_no (is_code (mac_rule_named (value_of r (codes "rule"))) key (bytes_in r (codes "text")) (bytes_in r (codes "mac")))) ∷ [] in fs) key_is
    text_fields CsnbencFirst uses =
        ap (λ (key : ClearKey). segment_fields key mode.Encipher (first_chain (bytes_in r (codes "iv"))) (bytes_in r (codes "text"))) key_is
    text_fields CsnbencMiddle uses = ap (λ (key : ClearKey). segment_fields key mode.Encipher (chain_in r) (bytes_in r (codes "text"))) key_is
    text_fields CsnbencLast uses =
        ap (λ (key : ClearKey). last_text_fields key mode.Encipher (chain_in r) (pad_named (value_of r (codes "pad"))) (bytes_in r (codes "text"))) key_is
    text_fields CsnbdecFirst uses =
        ap (λ (key : ClearKey). segment_fields key mode.Decipher (first_chain (bytes_in r (codes "iv"))) (bytes_in r (codes "text"))) key_is
    text_fields CsnbdecMiddle uses = ap (λ (key : ClearKey). segment_fields key mode.Decipher (chain_in r) (bytes_in r (codes "text"))) key_is
    text_fields CsnbdecLast uses =
        ap (λ (key : ClearKey). last_text_fields key mode.Decipher (chain_in r) (pad_named (value_of r (codes "pad"))) (bytes_in r (codes "text"))) key_is
    text_fields CsnbmgnFirst uses = ap (λ (key : ClearKey). code_segment_fields key (code_rule r) (first_chain zero_block) (bytes_in r (codes "text"))) key_is
    text_fields CsnbmgnMiddle uses = ap (λ (key : ClearKey). code_segment_fields key (code_rule r) (chain_in r) (bytes_in r (codes "text"))) key_is
    text_fields CsnbmvrFirst uses = ap (λ (key : ClearKey). code_segment_fields key (code_rule r) (first_chain zero_block) (bytes_in r (codes "text"))) key_is
    text_fields CsnbmvrMiddle uses = ap (λ (key : ClearKey). code_segment_fields key (code_rule r) (chain_in r) (bytes_in r (codes "text"))) key_is
    text_fields CsnbmgnLast uses =
        ap (λ (key : ClearKey). last_code_fields key (code_rule r) (chain_in r) (mac_length_named (value_of r (codes "length"))) (bytes_in r (codes "text"))) key_is
    text_fields CsnbmvrLast uses =
        ap (λ (key : ClearKey). last_match_fields key (code_rule r) (chain_in r) (bytes_in r (codes "mac")) (bytes_in r (codes "text"))) key_is
    text_fields Csnbkyt uses = ap (λ (key : ClearKey). let fs : List Field = Hex (codes "value") (test_value key) ∷ [] in fs) key_is
    text_fields _ uses = cc uses

    text_old : (name : RequestName) → uses_text_key name ≡ true → any_old with_masters (listed (operands_of name r)) ≡ any_old s (listed (operands_of name r))
    text_old Csnbenc uses = ap (λ (key : Option Denoted). is_old key || false) (labelled_key (value_of r (codes "key")) label named)
    text_old Csnbdec uses = ap (λ (key : Option Denoted). is_old key || false) (labelled_key (value_of r (codes "key")) label named)
    text_old Csnbmgn uses = ap (λ (key : Option Denoted). is_old key || false) (labelled_key (value_of r (codes "key")) label named)
    text_old Csnbmvr uses = ap (λ (key : Option Denoted). is_old key || false) (labelled_key (value_of r (codes "key")) label named)
    text_old CsnbencFirst uses = ap (λ (key : Option Denoted). is_old key || false) (labelled_key (value_of r (codes "key")) label named)
    text_old CsnbencMiddle uses = ap (λ (key : Option Denoted). is_old key || false) (labelled_key (value_of r (codes "key")) label named)
    text_old CsnbencLast uses = ap (λ (key : Option Denoted). is_old key || false) (labelled_key (value_of r (codes "key")) label named)
    text_old CsnbdecFirst uses = ap (λ (key : Option Denoted). is_old key || false) (labelled_key (value_of r (codes "key")) label named)
    text_old CsnbdecMiddle uses = ap (λ (key : Option Denoted). is_old key || false) (labelled_key (value_of r (codes "key")) label named)
    text_old CsnbdecLast uses = ap (λ (key : Option Denoted). is_old key || false) (labelled_key (value_of r (codes "key")) label named)
    text_old CsnbmgnFirst uses = ap (λ (key : Option Denoted). is_old key || false) (labelled_key (value_of r (codes "key")) label named)
    text_old CsnbmgnMiddle uses = ap (λ (key : Option Denoted). is_old key || false) (labelled_key (value_of r (codes "key")) label named)
    text_old CsnbmgnLast uses = ap (λ (key : Option Denoted). is_old key || false) (labelled_key (value_of r (codes "key")) label named)
    text_old CsnbmvrFirst uses = ap (λ (key : Option Denoted). is_old key || false) (labelled_key (value_of r (codes "key")) label named)
    text_old CsnbmvrMiddle uses = ap (λ (key : Option Denoted). is_old key || false) (labelled_key (value_of r (codes "key")) label named)
    text_old CsnbmvrLast uses = ap (λ (key : Option Denoted). is_old key || false) (labelled_key (value_of r (codes "key")) label named)
    text_old Csnbkyt uses = ap (λ (key : Option Denoted). is_old key || false) (labelled_key (value_of r (codes "key")) label named)
    text_old _ uses = cc uses

    text_verdict : uses_text_key r.name ≡ true → verdict with_masters drawn r ≡ verdict s drawn r
    text_verdict uses =
        ap (λ (empty : Bool). or_refused (first_failing (general_by r empty)) (codes "-")
        (or_then (first_refusal (operand_questions with_masters (listed (operands r)))) (whole_verb_verdict with_masters drawn r))) same
        ∙ ap₂ (λ (operand verb : List Questions). by_questions s drawn r operand verb)
        (text_operands r.name uses) (text_verb r.name uses)

    text_by : (v : Option Refusal) → uses_text_key r.name ≡ true → (or_act v with_masters drawn r).reply ≡ (or_act v s drawn r).reply
    text_by (Some refusal) uses = refl
    text_by None uses = ap₂ (λ (fs : List Field) (b : Bool). Done (fs ++ warning b)) (text_fields r.name uses) (text_old r.name uses)

    labelled_reply : uses_text_key r.name ≡ true → (performed with_masters drawn r).reply ≡ (performed s drawn r).reply
    unfolding performed
    labelled_reply uses = ap (λ (v : Option Refusal). (or_act v with_masters drawn r).reply) (text_verdict uses) ∙ text_by (verdict s drawn r) uses

pub same_by_label : (s : State) (m : Masters) (drawn label : List ℕ) (r : Request) → uses_text_key r.name ≡ true → label_named (value_of r (codes "key")) ≡ Some label
    → is_none m.current ≡ is_none s.registers.current → (performed (record s { registers = m }) drawn r).reply ≡ (performed s drawn r).reply
same_by_label s m drawn label r uses named same = labelled_reply s m same drawn label r named uses

pub same_by_state : (s : State) (one other : NewRegister) (drawn : List ℕ) (r : Request) → state_of one ≡ state_of other → asks_new_key r ≡ false
    → (performed (with_new s one) drawn r).reply ≡ (performed (with_new s other) drawn r).reply
same_by_state s one other drawn r same asks = new_reply s other one same drawn r asks
