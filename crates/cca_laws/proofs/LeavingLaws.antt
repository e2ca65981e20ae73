-- What leaves in the reply to a permitted request.
use Rattle.std.proofs.Common.{◌≡◌, ℕ, Bool, true, false, not, List, [], ◌∷◌, length, take, Option, None, Some, refl, sym, ap, ap₂, subst, ◌∙◌, codes}
use Rattle.std.specs.Prelude.{◌&&◌, is_none}
use Rattle.std.specs.Str.{bytes_eq}
use Rattle.cca_vectors.specs.Checks.{check, first_failing}
use Rattle.cca_vectors.specs.VectorChecks.{vector_checks}
use Rattle.cca_vectors.proofs.Judging.{none_in_first, passed_over}
use Rattle.cca_vectors.specs.declared.key_class.Class.{Class}
use Rattle.cca_vectors.specs.declared.key_class.Class.TheVariants.{Data, Cipher, Mac as MacClass, Exporter, Importer}
use Rattle.cca_vectors.specs.declared.key_usage.Usage.{Usage}
use Rattle.cca_vectors.specs.declared.key_usage.Usage.TheVariants as use_of
use Rattle.cipher_verbs.specs.CipherTexts.{deciphered_text, enciphered_text, test_value}
use Rattle.cipher_verbs.specs.Imported.{imported_key}
use Rattle.cipher_verbs.specs.declared.padding.Pad.{Pad}
use Rattle.des_blocks.specs.Modes.{zero_block}
use Rattle.key_parts.specs.Parts.{combined_key, first_key}
use Rattle.key_tokens.specs.Denotes.{ClearKey, Denoted, denoted_under}
use Rattle.key_tokens.specs.Fields.{vector_bytes_of}
use Rattle.key_tokens.specs.TokenChecks.{has_right_half, header_checks, token_checks}
use Rattle.key_tokens.specs.declared.key_token.Age.{Age}
use Rattle.key_tokens.specs.declared.key_token.Age.TheVariants.{Current, Old}
use Rattle.key_tokens.specs.declared.key_token.Asked.{Asked}
use Rattle.key_tokens.specs.declared.key_token.Asked.TheVariants as asked
use Rattle.key_transport.specs.Tokens.{as_current, changed_token, closed_key, external_token, full_bytes, new_token}
use Rattle.key_transport.specs.declared.changing.Target.{Target}
use Rattle.key_transport.specs.declared.changing.Target.TheVariants.{Current as ToCurrent, New}
use Rattle.key_transport.specs.declared.generating.Form.{Form}
use Rattle.key_transport.specs.declared.generating.Form.TheVariants.{Op, Opex, Opim, Imex, Exex, Imim}
use Rattle.mac_verbs.specs.Codes.{code_of}
use Rattle.master_registers.specs.Loaded.{registers_of}
use Rattle.master_registers.specs.Masters.{Empty, Full, Masters, NewRegister, Partial, is_full, state_of}
use Rattle.master_registers.specs.Actions.{after_action}
use Rattle.line_service.specs.Replies.{Field, Hex, Text}
use Rattle.text_segments.specs.Chains.{chain_bytes, first_chain}
use Rattle.text_segments.specs.Segments.{chain_after, last_code, last_text, segment_text}
use Rattle.text_segments.specs.declared.chains.Chain.{Chain}
use Rattle.text_segments.specs.declared.modes.Mode.{Mode}
use Rattle.text_segments.specs.declared.modes.Mode.TheVariants.{Encipher, Decipher, Mac}
use Rattle.verb_rules.specs.Keys.{keys_of, master_key, master_under, sealed_token, token_for}
use Rattle.verb_rules.specs.declared.needs.Need.{Need}
use Rattle.verb_script.specs.Grammar.{Request, value_of}
use Rattle.verb_script.specs.declared.rows.RequestName.{RequestName}
use Rattle.verb_script.specs.declared.rows.RequestName.TheVariants.{Csnbktp, Csnbenc, CsnbencFirst, CsnbencMiddle, CsnbencLast, Csnbdec, CsnbdecFirst, CsnbdecMiddle, CsnbdecLast, Csnbmgn, CsnbmgnFirst, CsnbmgnMiddle, CsnbmgnLast, Csnbmvr, CsnbmvrFirst, CsnbmvrMiddle, CsnbmvrLast, Csnbkyt, Csnbcki, CsnbkgnOp, CsnbkgnPair, CsnbkgnOut, Csnbkim, Csnbkex, Csnbpex, Csnbktc, CsnbkpiFirst, CsnbkpiMiddle, Csnbktr, Csnbrng, Csnbkrc, Csnbkrw, Csnbkrr, Csnbkrd, Csnbkrl, CsnbmkpPart, CsnbmkpClear, CsnbmkpSet, CsuaaciDefine, CsuaaciRemove, Reencipher, ReencipherAhead, ReencipherDrop}
use Rattle.verb_script.specs.Named.{label_named}
use Rattle.cca_machine.specs.Act.{delivered_with, effect, fields_after, new_name, or_act, or_empty, performed, state_after, token_out, yes_or_no}
use Rattle.cca_machine.specs.Actions.{part_action}
use Rattle.cca_machine.specs.Choices.{is_last_part, mac_length_named, out_form_named, pair_form_named, target_named, type_in}
use Rattle.cca_machine.specs.Keys.{imported, key_in_field, key_in_text, key_of_label, key_of_token, or_no_clear, or_no_key}
use Rattle.cca_machine.specs.Operands.{Operand, any_key, exported_key, external_key, first_transport, five_classes, internal_key, key_operand, listed, no_operand, operand, operands_of, part_key, second_transport, transport_key}
use Rattle.cca_machine.specs.State.{State, IsStoreOf}
use Rattle.cca_machine.specs.Verdict.{Refusal, bytes_in, chain_in, change_questions, code_rule, decipher_questions, first_refusal, last_questions, needs_master, operand_checks, operand_questions, text_size, verb_questions, verdict}
use Rattle.cca_machine.specs.declared.asking.Ask.TheVariants as ask
use Rattle.cca_laws.specs.Leaving.{Delivers, DeliversTo, IsAccepted, IsRegister, IsTarget, Leaves, LeavesSealed, OfExternal, OfKey, OfToken, ShowsChain, ShowsSegment, ShowsText, clear_in, generated, pad_in, state_name, text_in, under_master, under_transport}
use Rattle.cca_laws.proofs.ExportLaws.{behind_header, full, imported_vector, label_token, register_of, text_token, vector_passes}
use Rattle.cca_laws.proofs.LineCases.{permitted, refused_none}
use Rattle.cca_laws.proofs.OperandKeys.{external_given, key_given, label_given, token_checked, token_given}
use Rattle.cca_laws.proofs.UseLaws.{behind, first_passes}

-- ---- what there is

some_of : (o : Option Denoted) → is_none o ≡ false → (key : Denoted) × (o ≡ Some key)
some_of None is = cc is
some_of (Some key) is = (key, refl)

some_clear : (o : Option ClearKey) → is_none o ≡ false → (clear : ClearKey) × (o ≡ Some clear)
some_clear None is = cc is
some_clear (Some clear) is = (clear, refl)

shows_text : (o : Option (List ℕ)) → is_none o ≡ false → ShowsText o (Hex (codes "text") (or_empty o) ∷ [])
shows_text None is = cc is
shows_text (Some bytes) is = (bytes, (refl, refl))

passes_one : (rule : ℕ) (b : Bool) → first_failing (check rule b ∷ []) ≡ None → b ≡ false
passes_one rule true is = cc is
passes_one rule false is = refl

-- ---- tokens

-- the token of a key under the master key of a full register
sealed_is : (o : Option (List ℕ)) (master : List ℕ) (clear : ClearKey) → o ≡ Some master → sealed_token (master_key o) clear ≡ under_master master clear
sealed_is o master clear is = ap (λ (x : Option (List ℕ)). sealed_token (master_key x) clear) is

external_is : (transport clear : ClearKey) → external_token transport.key clear ≡ under_transport transport clear
unfolding external_token
external_is transport clear = refl

full_register : (o : Option (List ℕ)) → is_none o ≡ false → (master : List ℕ) × (o ≡ Some master)
full_register None is = cc is
full_register (Some master) is = (master, refl)

current_is : (m : Masters) (master : List ℕ) (clear : ClearKey) → m.current ≡ Some master → token_for (keys_of m) (as_current clear) ≡ under_master master clear
unfolding token_for
current_is m master clear is = sealed_is m.current master clear is

record_is : (m : Masters) (master : List ℕ) (key : Denoted) → register_of m key.age ≡ Some master → token_for (keys_of m) key ≡ under_master master key.clear
unfolding token_for
record_is m master key is = ap (λ (o : Option _). sealed_token o key.clear) (by_age key.age) ∙ sealed_is (register_of m key.age) master key.clear is
  where
    by_age : (a : Age) → master_under (keys_of m) a ≡ master_key (register_of m a)
    by_age Current = refl
    by_age Old = refl

register_is : (s : State) (a : Age) (master : List ℕ) → register_of s.registers a ≡ Some master → IsRegister s a master
register_is s Current master is = is
register_is s Old master is = is

new_is : (s : State) (master : List ℕ) (clear : ClearKey) → s.registers.coming ≡ Full master → new_token s.registers clear ≡ under_master master clear
unfolding new_token
new_is s master clear is = ap (λ (c : NewRegister). sealed_token (master_key (full_bytes c)) clear) is

full_coming : (c : NewRegister) → not (is_full c) ≡ false → (master : List ℕ) × (c ≡ Full master)
full_coming Empty is = cc is
full_coming (Partial bytes) is = cc is
full_coming (Full bytes) is = (bytes, refl)

-- the token that CSNBKTC gives
changed_is : (s : State) (t : Target) (clear : ClearKey) → is_none s.registers.current ≡ false → first_refusal (change_questions s t) ≡ None
    → (master : List ℕ) × (IsTarget s t master × (changed_token s.registers t clear ≡ under_master master clear))
changed_is s ToCurrent clear some passes =
    let f = full_register s.registers.current some in (f.0, (f.1, current_is s.registers f.0 clear f.1))
changed_is s New clear some passes =
    let f = full_coming s.registers.coming (passes_one 25 _ (refused_none _ (codes "-") None passes).0) in (f.0, (f.1, new_is s f.0 clear f.1))

-- a key that is delivered
delivers : (s : State) (to : Option (List ℕ)) (field : List ℕ) (clear : ClearKey) (more : List Field) → is_none s.registers.current ≡ false
    → Delivers s to field clear more (fields_after s (delivered_with s field to (as_current clear) more))
delivers s (Some label) field clear more some = refl
delivers s None field clear more some =
    let f = full_register s.registers.current some in
    (f.0, (f.1, ap (λ (token : List ℕ). let fs : List Field = Hex field token ∷ more in fs) (current_is s.registers f.0 clear f.1)))

new_word : (c : NewRegister) → new_name c ≡ state_name (state_of c)
new_word Empty = refl
new_word (Partial bytes) = refl
new_word (Full bytes) = refl

first_asked : (f : Form) → (first_transport f).asked ≡ asked.Internal
first_asked Op = refl
first_asked Opex = refl
first_asked Opim = refl
first_asked Imex = refl
first_asked Exex = refl
first_asked Imim = refl

second_asked : (f : Form) → (second_transport f).asked ≡ asked.Internal
second_asked Op = refl
second_asked Opex = refl
second_asked Opim = refl
second_asked Imex = refl
second_asked Exex = refl
second_asked Imim = refl

-- the control vector of a token that breaks no rule
vector_of_token : (asks : Asked) (bytes : List ℕ) → first_failing (token_checks asks bytes) ≡ None → IsAccepted (vector_bytes_of bytes)
vector_of_token asks bytes passes =
    let header = none_in_first (header_checks asks bytes) (behind_header bytes) passes in
    none_in_first (vector_checks (vector_bytes_of bytes)) (check 16 (not (has_right_half bytes)) ∷ [])
    (sym (passed_over (header_checks asks bytes) (behind_header bytes) header) ∙ passes)

-- ---- the operands of a permitted request

module _ (s : State) (image : List ℕ) (stands : IsStoreOf s image) (r : Request) where
  abbrev Asks : List Operand → Type 0
  Asks os = first_refusal (operand_questions s os) ≡ None

  abbrev IsGiven : List ℕ → Type 0
  IsGiven name = is_none (key_in_text s (value_of r name)) ≡ false

  given : (name : List ℕ) (need : Need) (os : List Operand) → need.asked ≡ asked.Internal → Asks (operand r name (ask.Key need) ∷ os) → IsGiven name
  given name need os is passes =
      key_given s need (value_of r name) is (first_passes s (operand r name (ask.Key need)) os passes).0

  -- P of the key of an operand, where it is of the key that the machine takes
  of_key : (name : List ℕ) (P : ClearKey → Type 0) → IsGiven name → P (key_in_field s r name) → OfKey s r name P
  of_key name P has is =
      let key = some_of (key_in_text s (value_of r name)) has in
      record {
        clear = key.0.clear;
        is = ap clear_in key.1;
        vector = vector_passes s key.0 (text_token s image (value_of r name) key.0 stands key.1);
        holds = subst P (ap (λ (o : Option Denoted). (or_no_key o).clear) key.1) is;
      }

  of_external : (transport : ClearKey) (P : ClearKey → Type 0) → first_failing (operand_checks s (value_of r (codes "token")) (ask.External external_key)) ≡ None
      → P (imported transport (bytes_in r (codes "token"))) → OfExternal r transport P
  of_external transport P passes is =
      let bytes : List ℕ = bytes_in r (codes "token") in
      let checked = token_checked asked.External external_key (registers_of s.registers) bytes refl passes in
      let clear = some_clear (denoted_under transport.key bytes) (external_given transport.key bytes checked) in
      record {
        clear = clear.0;
        is = clear.1;
        vector = subst IsAccepted (sym (imported_vector transport bytes checked) ∙ ap (λ (o : Option ClearKey). (or_no_clear o).vector) clear.1) (vector_of_token asked.External bytes checked);
        holds = subst P (ap or_no_clear clear.1) is;
      }

  of_token : (P : ClearKey → Type 0) → is_none (key_of_token s (bytes_in r (codes "token"))) ≡ false
      → P (or_no_key (key_of_token s (bytes_in r (codes "token")))).clear → OfToken s r P
  of_token P has is =
      let key = some_of (key_of_token s (bytes_in r (codes "token"))) has in
      record {
        clear = key.0.clear;
        is = ap clear_in key.1;
        vector = vector_passes s key.0 (record { bytes = bytes_in r (codes "token"); stands = key.1 });
        holds = subst P (ap (λ (o : Option Denoted). (or_no_key o).clear) key.1) is;
      }

  -- what is made of the operand `key`
  shows : (f : ClearKey → List Field) → IsGiven (codes "key") → OfKey s r (codes "key") (λ key. f (key_in_field s r (codes "key")) ≡ f key)
  shows f has = of_key (codes "key") (λ (key : ClearKey). f (key_in_field s r (codes "key")) ≡ f key) has refl

  shows_some : (f : ClearKey → Option (List ℕ)) → IsGiven (codes "key") → is_none (f (key_in_field s r (codes "key"))) ≡ false
      → OfKey s r (codes "key") (λ key. ShowsText (f key) (Hex (codes "text") (or_empty (f (key_in_field s r (codes "key")))) ∷ []))
  shows_some f has some =
      of_key (codes "key") (λ (key : ClearKey). ShowsText (f key) (Hex (codes "text") (or_empty (f (key_in_field s r (codes "key")))) ∷ []))
      has (shows_text (f (key_in_field s r (codes "key"))) some)

  text_given : (classes : List Class) (usage : Option Usage) → Asks (listed (key_operand r classes usage)) → IsGiven (codes "key")
  text_given classes usage passes = given (codes "key") (internal_key classes usage) (no_operand ∷ no_operand ∷ []) refl passes

  -- ---- rule 31

  plain : (iv text : List ℕ) (padding : Pad) (size : ℕ) → first_refusal (decipher_questions size (key_in_field s r (codes "key")) iv padding text) ≡ None
      → is_none (deciphered_text (key_in_field s r (codes "key")) iv padding text) ≡ false
  plain iv text padding size passes =
      let first = refused_none _ (codes "text") _ passes in
      passes_one 31 _ (refused_none _ (codes "text") None first.1).0

  last_plain : (mode : Mode) → first_refusal (last_questions s mode r) ≡ None
      → is_none (last_text (key_in_field s r (codes "key")) mode (chain_in r) (pad_in r) (text_in r)) ≡ false
  last_plain mode passes =
      let first = refused_none _ (codes "chain") _ passes in
      let second = refused_none _ (codes "text") _ first.1 in
      passes_one 31 _ (refused_none _ (codes "text") None second.1).0

-- ---- each request

abbrev one_token : List ℕ → List Field
one_token token = Hex (codes "token") token ∷ []

module _ (s : State) (image drawn : List ℕ) (stands : IsStoreOf s image) (r : Request) where
  abbrev to_label : Option (List ℕ)
  to_label = label_named (value_of r (codes "to"))

  abbrev token_bytes : List ℕ
  token_bytes = bytes_in r (codes "token")

  -- what a request has passed
  abbrev Passes : RequestName → Type 0
  Passes name =
      (first_refusal (operand_questions s (listed (operands_of name r))) ≡ None)
      × ((first_refusal (verb_questions s name r) ≡ None)
      × ((needs_master name && is_none s.registers.current) ≡ false))

  abbrev LeavesBy : RequestName → Type 0
  LeavesBy name = Leaves s (state_after s (effect s drawn name r)) drawn name r (fields_after s (effect s drawn name r))

  abbrev fields_of : RequestName → List Field
  fields_of name = fields_after s (effect s drawn name r)

  shows_segment : (mode : Mode) (chain : Chain) → is_none (key_in_text s (value_of r (codes "key"))) ≡ false
      → ShowsSegment s r mode chain
      (Hex (codes "text") (segment_text (key_in_field s r (codes "key")) mode chain (text_in r))
      ∷ Hex (codes "chain") (chain_bytes (chain_after (key_in_field s r (codes "key")) mode chain (text_in r))) ∷ [])
  shows_segment mode chain has =
      shows s image stands r
      (λ (key : ClearKey). Hex (codes "text") (segment_text key mode chain (text_in r)) ∷ Hex (codes "chain") (chain_bytes (chain_after key mode chain (text_in r))) ∷ []) has

  shows_chain : (chain : Chain) → is_none (key_in_text s (value_of r (codes "key"))) ≡ false
      → ShowsChain s r chain (Hex (codes "chain") (chain_bytes (chain_after (key_in_field s r (codes "key")) (Mac (code_rule r)) chain (text_in r))) ∷ [])
  shows_chain chain has = shows s image stands r (λ (key : ClearKey). Hex (codes "chain") (chain_bytes (chain_after key (Mac (code_rule r)) chain (text_in r))) ∷ []) has

  abbrev mac_fields : List ℕ → List Field
  mac_fields mac = Hex (codes "mac") (take (mac_length_named (value_of r (codes "length"))) mac) ∷ []

  abbrev match_fields : List ℕ → List Field
  match_fields mac =
      Text (codes "match") (yes_or_no (bytes_eq (bytes_in r (codes "mac")) (take (length (bytes_in r (codes "mac"))) mac))) ∷ []

  abbrev second_token : ClearKey → List Field
  second_token two = Hex (codes "token2") (under_transport two (generated r drawn (codes "type2"))) ∷ []

  abbrev both_tokens : ClearKey → ClearKey → List Field
  both_tokens one two =
      Hex (codes "token1") (under_transport one (generated r drawn (codes "type1"))) ∷ Hex (codes "token2") (under_transport two (generated r drawn (codes "type2"))) ∷ []

  abbrev new_field : List ℕ → List Field
  new_field word = Text (codes "new") word ∷ []

  leaves : (name : RequestName) → Passes name → LeavesBy name
  leaves Csnbktp p = refl
  leaves Csnbenc p =
      shows s image stands r (λ (key : ClearKey). Hex (codes "text") (enciphered_text key (bytes_in r (codes "iv")) (pad_in r) (text_in r)) ∷ [])
      (text_given s image stands r (Data ∷ Cipher ∷ []) (Some use_of.Encipher) p.0)
  leaves CsnbencFirst p = shows_segment Encipher (first_chain (bytes_in r (codes "iv"))) (text_given s image stands r (Data ∷ Cipher ∷ []) (Some use_of.Encipher) p.0)
  leaves CsnbencMiddle p = shows_segment Encipher (chain_in r) (text_given s image stands r (Data ∷ Cipher ∷ []) (Some use_of.Encipher) p.0)
  leaves CsnbencLast p =
      shows_some s image stands r (λ (key : ClearKey). last_text key Encipher (chain_in r) (pad_in r) (text_in r)) (text_given s image stands r (Data ∷ Cipher ∷ []) (Some use_of.Encipher) p.0) refl
  leaves Csnbdec p =
      shows_some s image stands r (λ (key : ClearKey). deciphered_text key (bytes_in r (codes "iv")) (pad_in r) (text_in r)) (text_given s image stands r (Data ∷ Cipher ∷ []) (Some use_of.Decipher) p.0)
      (plain s image stands r (bytes_in r (codes "iv")) (text_in r) (pad_in r) (text_size r) p.1.0)
  leaves CsnbdecFirst p = shows_segment Decipher (first_chain (bytes_in r (codes "iv"))) (text_given s image stands r (Data ∷ Cipher ∷ []) (Some use_of.Decipher) p.0)
  leaves CsnbdecMiddle p = shows_segment Decipher (chain_in r) (text_given s image stands r (Data ∷ Cipher ∷ []) (Some use_of.Decipher) p.0)
  leaves CsnbdecLast p =
      shows_some s image stands r (λ (key : ClearKey). last_text key Decipher (chain_in r) (pad_in r) (text_in r)) (text_given s image stands r (Data ∷ Cipher ∷ []) (Some use_of.Decipher) p.0)
      (last_plain s image stands r Decipher p.1.0)
  leaves Csnbmgn p =
      shows s image stands r (λ (key : ClearKey). mac_fields (code_of (code_rule r) key (text_in r))) (text_given s image stands r (Data ∷ MacClass ∷ []) (Some use_of.MacGenerate) p.0)
  leaves CsnbmgnFirst p = shows_chain (first_chain zero_block) (text_given s image stands r (Data ∷ MacClass ∷ []) (Some use_of.MacGenerate) p.0)
  leaves CsnbmgnMiddle p = shows_chain (chain_in r) (text_given s image stands r (Data ∷ MacClass ∷ []) (Some use_of.MacGenerate) p.0)
  leaves CsnbmgnLast p =
      shows s image stands r (λ (key : ClearKey). mac_fields (last_code key (code_rule r) (chain_in r) (text_in r))) (text_given s image stands r (Data ∷ MacClass ∷ []) (Some use_of.MacGenerate) p.0)
  leaves Csnbmvr p =
      shows s image stands r (λ (key : ClearKey). match_fields (code_of (code_rule r) key (text_in r))) (text_given s image stands r (Data ∷ MacClass ∷ []) (Some use_of.MacVerify) p.0)
  leaves CsnbmvrFirst p = shows_chain (first_chain zero_block) (text_given s image stands r (Data ∷ MacClass ∷ []) (Some use_of.MacVerify) p.0)
  leaves CsnbmvrMiddle p = shows_chain (chain_in r) (text_given s image stands r (Data ∷ MacClass ∷ []) (Some use_of.MacVerify) p.0)
  leaves CsnbmvrLast p =
      shows s image stands r (λ (key : ClearKey). match_fields (last_code key (code_rule r) (chain_in r) (text_in r))) (text_given s image stands r (Data ∷ MacClass ∷ []) (Some use_of.MacVerify) p.0)
  leaves Csnbkyt p = shows s image stands r (λ (key : ClearKey). Hex (codes "value") (test_value key) ∷ []) (text_given s image stands r five_classes None p.0)
  leaves Csnbcki p = delivers s to_label (codes "token") (imported_key (bytes_in r (codes "clear"))).clear [] p.1.1
  leaves Csnbrng p = refl
  leaves CsnbkgnOp p = delivers s to_label (codes "token1") (generated r drawn (codes "type1")) [] p.1.1
  leaves CsnbkgnPair p =
      of_key s image stands r (codes "transport2")
      (λ (two : ClearKey). Delivers s to_label (codes "token1") (generated r drawn (codes "type1")) (second_token two) (fields_of CsnbkgnPair))
      (given s image stands r (codes "transport2") _ (behind CsnbkgnPair r) (second_asked (pair_form_named (value_of r (codes "form")))) p.0)
      (subst (λ (token : List ℕ). Delivers s to_label (codes "token1") (generated r drawn (codes "type1")) (Hex (codes "token2") token ∷ []) (fields_of CsnbkgnPair))
      (external_is (key_in_field s r (codes "transport2")) (generated r drawn (codes "type2")))
      (delivers s to_label (codes "token1") (generated r drawn (codes "type1"))
      (Hex (codes "token2") (token_out s r (codes "transport2") (generated r drawn (codes "type2"))) ∷ []) p.1.1))
  leaves CsnbkgnOut p =
      of_key s image stands r (codes "transport1") (λ (one : ClearKey). OfKey s r (codes "transport2") (λ two. fields_of CsnbkgnOut ≡ both_tokens one two))
      (given s image stands r (codes "transport1") _ (behind CsnbkgnOut r) (first_asked (out_form_named (value_of r (codes "form")))) p.0)
      (of_key s image stands r (codes "transport2") (λ (two : ClearKey). fields_of CsnbkgnOut ≡ both_tokens (key_in_field s r (codes "transport1")) two)
      (given s image stands r (codes "transport2") _ ((operands_of CsnbkgnOut r).third ∷ []) (second_asked (out_form_named (value_of r (codes "form"))))
      (first_passes s (operands_of CsnbkgnOut r).first (behind CsnbkgnOut r) p.0).1)
      (ap₂ (λ (one two : List ℕ). let fs : List Field = Hex (codes "token1") one ∷ Hex (codes "token2") two ∷ [] in fs)
      (external_is (key_in_field s r (codes "transport1")) (generated r drawn (codes "type1")))
      (external_is (key_in_field s r (codes "transport2")) (generated r drawn (codes "type2")))))
  leaves Csnbkim p =
      let rest = first_passes s (operands_of Csnbkim r).first (behind Csnbkim r) p.0 in
      of_key s image stands r (codes "transport") (λ (transport : ClearKey). OfExternal r transport (λ key. DeliversTo s r (codes "token") key (fields_of Csnbkim)))
      (given s image stands r (codes "transport") (transport_key Importer use_of.Transport) ((operands_of Csnbkim r).third ∷ []) refl rest.1)
      (of_external s image stands r (key_in_field s r (codes "transport")) (λ (key : ClearKey). DeliversTo s r (codes "token") key (fields_of Csnbkim)) rest.0
      (delivers s to_label (codes "token") (imported (key_in_field s r (codes "transport")) token_bytes) [] p.1.1))
  leaves Csnbkex p =
      of_key s image stands r (codes "key") (λ (key : ClearKey). OfKey s r (codes "transport") (λ transport. fields_of Csnbkex ≡ one_token (under_transport transport key)))
      (given s image stands r (codes "key") exported_key (behind Csnbkex r) refl p.0)
      (of_key s image stands r (codes "transport") (λ (transport : ClearKey). fields_of Csnbkex ≡ one_token (under_transport transport (key_in_field s r (codes "key"))))
      (given s image stands r (codes "transport") (transport_key Exporter use_of.Transport) ((operands_of Csnbkex r).third ∷ []) refl
      (first_passes s (operands_of Csnbkex r).first (behind Csnbkex r) p.0).1)
      (ap one_token (external_is (key_in_field s r (codes "transport")) (key_in_field s r (codes "key")))))
  leaves Csnbpex p =
      of_key s image stands r (codes "key") (λ (key : ClearKey). DeliversTo s r (codes "token") (closed_key key) (fields_of Csnbpex))
      (given s image stands r (codes "key") (internal_key five_classes None) (behind Csnbpex r) refl p.0)
      (delivers s to_label (codes "token") (closed_key (key_in_field s r (codes "key"))) [] p.1.1)
  leaves Csnbktc p =
      let target = target_named (value_of r (codes "rule")) in
      let master = changed_is s target (or_no_key (key_of_token s token_bytes)).clear p.1.1 p.1.0 in
      of_token s image stands r (λ (key : ClearKey). (master : List ℕ) × (IsTarget s (target_named (value_of r (codes "rule"))) master × (fields_of Csnbktc ≡ one_token (under_master master key))))
      (token_given s any_key token_bytes refl (first_passes s (operands_of Csnbktc r).first (behind Csnbktc r) p.0).0)
      (master.0, (master.1.0, ap one_token master.1.1))
  leaves CsnbkpiFirst p = delivers s to_label (codes "token") (first_key (type_in (value_of r (codes "type"))) (bytes_in r (codes "part"))) [] p.1.1
  leaves CsnbkpiMiddle p =
      of_key s image stands r (codes "key")
      (λ (key : ClearKey). DeliversTo s r (codes "token") (combined_key (is_last_part (value_of r (codes "rule"))) key (bytes_in r (codes "part"))) (fields_of CsnbkpiMiddle))
      (given s image stands r (codes "key") part_key (behind CsnbkpiMiddle r) refl p.0)
      (delivers s to_label (codes "token") (combined_key (is_last_part (value_of r (codes "rule"))) (key_in_field s r (codes "key")) (bytes_in r (codes "part"))) [] p.1.1)
  leaves Csnbktr p =
      let rest = first_passes s (operands_of Csnbktr r).first (behind Csnbktr r) p.0 in
      let last = first_passes s (operands_of Csnbktr r).second ((operands_of Csnbktr r).third ∷ []) rest.1 in
      of_key s image stands r (codes "transport1")
      (λ (one : ClearKey). OfKey s r (codes "transport2") (λ two. OfExternal r one (λ key. fields_of Csnbktr ≡ one_token (under_transport two key))))
      (given s image stands r (codes "transport1") (transport_key Importer use_of.Translate) ((operands_of Csnbktr r).third ∷ []) refl rest.1)
      (of_key s image stands r (codes "transport2")
      (λ (two : ClearKey). OfExternal r (key_in_field s r (codes "transport1")) (λ key. fields_of Csnbktr ≡ one_token (under_transport two key)))
      (given s image stands r (codes "transport2") (transport_key Exporter use_of.Translate) [] refl last.1)
      (of_external s image stands r (key_in_field s r (codes "transport1"))
      (λ (key : ClearKey). fields_of Csnbktr ≡ one_token (under_transport (key_in_field s r (codes "transport2")) key)) rest.0
      (ap one_token (external_is (key_in_field s r (codes "transport2")) (imported (key_in_field s r (codes "transport1")) token_bytes)))))
  leaves Csnbkrc p = refl
  leaves Csnbkrw p = refl
  leaves Csnbkrr p =
      let key = some_of (key_of_label s (value_of r (codes "label")))
      (label_given s (value_of r (codes "label")) (first_passes s (operands_of Csnbkrr r).first (behind Csnbkrr r) p.0).0) in
      let has = label_token s image (value_of r (codes "label")) key.0 stands key.1 in
      let master = full_register (register_of s.registers key.0.age) (full s key.0 has) in
      let token = ap one_token (ap (λ (o : Option Denoted). token_for (keys_of s.registers) (or_no_key o)) key.1 ∙ record_is s.registers master.0 key.0 master.1) in
      (key.0, (key.1, (vector_passes s key.0 has, (master.0, (register_is s key.0.age master.0 master.1, token)))))
  leaves Csnbkrd p = refl
  leaves Csnbkrl p = refl
  leaves CsnbmkpPart p =
      ap new_field (new_word (after_action (part_action (value_of r (codes "action"))) (bytes_in r (codes "part")) s.registers).coming)
  leaves CsnbmkpClear p = refl
  leaves CsnbmkpSet p = refl
  leaves CsuaaciDefine p = refl
  leaves CsuaaciRemove p = refl
  leaves Reencipher p = refl
  leaves ReencipherAhead p = refl
  leaves ReencipherDrop p = refl

pub leaves_sealed : (s : State) (image drawn : List ℕ) (r : Request) → IsStoreOf s image → verdict s drawn r ≡ None → LeavesSealed s drawn r (performed s drawn r)
unfolding performed
leaves_sealed s image drawn r stands permits =
    let p = permitted s drawn r permits in
    subst (λ (v : Option Refusal). LeavesSealed s drawn r (or_act v s drawn r)) (sym permits)
    (record {
      fields = fields_after s (effect s drawn r.name r);
      reply = refl;
      each = leaves s image drawn stands r r.name (p.operands, (p.verb, p.master));
    })
