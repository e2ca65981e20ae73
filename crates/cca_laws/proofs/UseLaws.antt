-- What a permitted request's key operands represent, and what their control vectors say.
use Rattle.std.proofs.Common.{◌≡◌, ◌≢◌, ◌⊎◌, ⊎_elim, ℕ, Bool, true, false, not, List, [], ◌∷◌, ◌++◌, Option, None, Some, refl, sym, ap, subst, ◌∙◌, codes, slice_index, true≢false, eq-eqb}
use Rattle.std.specs.Prelude.{⊤, ◌&&◌, ◌==◌, is_none, if◌then◌else◌}
use Rattle.std.specs.Str.{bytes_eq}
use Rattle.std.proofs.lemmas.Option.{same_Some}
use Rattle.cca_vectors.specs.Checks.{Check, check, first_failing}
use Rattle.cca_vectors.specs.Classes.{class_of}
use Rattle.cca_vectors.specs.Permissions.{is_exportable, permits}
use Rattle.cca_vectors.specs.VectorChecks.{vector_checks}
use Rattle.cca_vectors.specs.Vectors.{is_part_of, length_of}
use Rattle.cca_vectors.specs.declared.key_class.Class.{Class}
use Rattle.cca_vectors.specs.declared.key_class.Class.TheVariants.{Data, Cipher, Mac, Exporter, Importer}
use Rattle.cca_vectors.specs.declared.key_usage.Usage.{Usage}
use Rattle.cca_vectors.specs.declared.key_usage.Usage.TheVariants.{Encipher, Decipher, MacGenerate, MacVerify, Transport, Translate, PairOperational, PairImportExport, PairSame}
use Rattle.cca_vectors.proofs.Judging.{none_in_first, passed_over, passes_first}
use Rattle.record_bodies.specs.Labels.{is_label}
use Rattle.key_tokens.specs.Denotes.{ClearKey, Denoted, MasterKey, MasterKeys, clear_of, denoted, denoted_or, is_token}
use Rattle.key_tokens.specs.Fields.{kind_of, pattern_of_token, token_of, vector_bytes_of}
use Rattle.key_tokens.specs.Kinds.{kind_at}
use Rattle.key_tokens.specs.Layout.{made}
use Rattle.key_tokens.specs.TokenChecks.{has_flag, has_right_half, header_checks, reserved_is_zero, stored_tvv, token_checks}
use Rattle.key_tokens.specs.Tvv.{tvv_of}
use Rattle.key_tokens.specs.declared.key_token.Age.{Age}
use Rattle.key_tokens.specs.declared.key_token.Age.TheVariants.{Current, Old}
use Rattle.key_tokens.specs.declared.key_token.Asked.{Asked}
use Rattle.key_tokens.specs.declared.key_token.Asked.TheVariants as asked
use Rattle.key_tokens.specs.declared.key_token.Kind.{Kind}
use Rattle.key_tokens.specs.declared.key_token.Kind.TheVariants.{Internal, External}
use Rattle.key_transport.specs.Tokens.{changed_token, full_bytes, new_token}
use Rattle.key_transport.specs.declared.changing.Target.{Target}
use Rattle.key_transport.specs.declared.changing.Target.TheVariants.{Current as ToCurrent, New}
use Rattle.key_transport.specs.declared.generating.Form.{Form}
use Rattle.key_transport.specs.declared.generating.Form.TheVariants.{Op, Opex, Opim, Imex, Exex, Imim}
use Rattle.master_registers.specs.Loaded.{has_pattern, pattern_in, registers_of}
use Rattle.master_registers.specs.Masters.{Masters, pattern_of_master}
use Rattle.master_registers.specs.declared.registers.Registers.{Registers}
use Rattle.verb_rules.specs.Classes.{classes_of, has}
use Rattle.verb_rules.specs.KeyChecks.{is_forbidden, is_under_none, key_checks, part_check, pattern_check, read_checks, register_with, use_checks, vector_use_checks}
use Rattle.verb_rules.specs.Keys.{keys_of, master_key, master_under, sealed_token, token_for}
use Rattle.verb_rules.specs.PartChecks.{part_length_checks, whole_key_checks}
use Rattle.verb_rules.specs.declared.needs.Need.{Need}
use Rattle.verb_script.specs.Grammar.{Request, value_of}
use Rattle.verb_script.specs.declared.rows.RequestName.{RequestName}
use Rattle.verb_script.specs.declared.rows.RequestName.TheVariants.{Csnbktp, Csnbenc, CsnbencFirst, CsnbencMiddle, CsnbencLast, Csnbdec, CsnbdecFirst, CsnbdecMiddle, CsnbdecLast, Csnbmgn, CsnbmgnFirst, CsnbmgnMiddle, CsnbmgnLast, Csnbmvr, CsnbmvrFirst, CsnbmvrMiddle, CsnbmvrLast, Csnbkyt, Csnbcki, CsnbkgnOp, CsnbkgnPair, CsnbkgnOut, Csnbkim, Csnbkex, Csnbpex, CsnbkpiFirst, CsnbkpiMiddle, Csnbktr, Csnbktc, Csnbkrr, Csnbkrl}
use Rattle.verb_script.specs.Named.{label_named}
use Rattle.cca_machine.specs.Act.{delivered_with, effect, effected, fields_after, or_act, performed}
use Rattle.cca_machine.specs.Choices.{out_form_named, pair_form_named, target_named}
use Rattle.cca_machine.specs.Keys.{any_old, cell_with, key_bytes, key_in_text, key_named, key_of_label, key_of_request, or_no_key, warning}
use Rattle.cca_machine.specs.Listing.{label_fields}
use Rattle.cca_machine.specs.Operands.{Operand, Operands, exported_key, first_transport, five_classes, internal_key, key_operand, listed, no_operand, operand, operands, operands_of, part_key, second_transport, transport_key}
use Rattle.cca_machine.specs.State.{State}
use Rattle.cca_machine.specs.Verdict.{Refusal, first_refusal, key_questions, operand_checks, operand_questions, part_size, record_checks, verb_questions, verdict}
use Rattle.cca_machine.specs.declared.asking.Ask.{Ask}
use Rattle.cca_machine.specs.declared.asking.Ask.TheVariants as ask
use Rattle.cca_laws.specs.ReplyTokens.{IfToken, is_token_field}
use Rattle.cca_laws.specs.Uses.{Allows, HasFirstTransport, HasSecondTransport, HasTransport, IsComplete, IsInternal, IsKeyWith, IsOperandOf, MayCarry, MayCombine, MayExport, MayTest, MayWork, ShowsNoExternal, gives_external}
use Rattle.cca_laws.proofs.LineCases.{permitted, refused_none}
use Rattle.cca_laws.proofs.TokenFields.{EffectShows, each-append, fields_have, warning_has}

-- ---- checks that pass

-- the first check passes, and the others
pub check_passes : (rule : ℕ) (fails : Bool) (checks : List Check) → first_failing (check rule fails ∷ checks) ≡ None → (fails ≡ false) × (first_failing checks ≡ None)
check_passes rule true checks is = cc
check_passes rule false checks is = (refl, is)

both_pass : (first second : List Check) → first_failing (first ++ second) ≡ None → first_failing second ≡ None
both_pass first second is = sym (passed_over first second (none_in_first first second is)) ∙ is

-- ---- what they say of a control vector

lets : (a b : Bool) → (a && b) ≡ false → a ≡ true → b ≡ false
lets true b is holds = is
lets false b is holds = cc holds

unforbidden : (usage : Option Usage) (vector : List ℕ) → is_forbidden usage vector ≡ false → (use_of : Usage) → usage ≡ Some use_of → permits vector use_of ≡ true
unforbidden None vector is use_of same = cc same
unforbidden (Some other) vector is use_of same = by_use (same_Some other use_of same)
  where
    not_true : (b : Bool) → not b ≡ false → b ≡ true
    not_true true e = refl
    not_true false e = cc e

    by_use : other ≡ use_of → permits vector use_of ≡ true
    by_use e = ap (permits vector) (sym e) ∙ not_true (permits vector other) is

pub not_false : (b : Bool) → not b ≡ false → b ≡ true
not_false true is = refl
not_false false is = cc is

apart_from : (n : ℕ) → (n == 8) ≡ false → n ≢ 8
apart_from n is same = true≢false (sym (eq-eqb n 8 same) ∙ is)

abbrev last_one : Need → List ℕ → List Check
last_one need vector = check 22 (need.double && (length_of vector == 8)) ∷ []

abbrev last_two : Need → List ℕ → List Check
last_two need vector = check 21 (need.export && not (is_exportable vector)) ∷ last_one need vector

allows : (need : Need) (vector : List ℕ) → first_failing (part_check need vector ∷ []) ≡ None → first_failing (vector_use_checks need vector) ≡ None → Allows need vector
allows need vector part uses =
    let p = check_passes 17 (not need.parts && is_part_of vector) [] part in
    let class = check_passes 19 (not (has need.classes (class_of vector))) (check 20 (is_forbidden need.usage vector) ∷ last_two need vector) uses in
    let usage = check_passes 20 (is_forbidden need.usage vector) (last_two need vector) class.1 in
    let export = check_passes 21 (need.export && not (is_exportable vector)) (last_one need vector) usage.1 in
    let double = check_passes 22 (need.double && (length_of vector == 8)) [] export.1 in
    record {
      class = not_false (has need.classes (class_of vector)) class.0;
      usage = unforbidden need.usage vector usage.0;
      export = λ asks. not_false (is_exportable vector) (lets need.export (not (is_exportable vector)) export.0 asks);
      double = λ asks. apart_from (length_of vector) (lets need.double (length_of vector == 8) double.0 asks);
      part = λ refuses. lets (not need.parts) (is_part_of vector) p.0 (ap not refuses);
    }

by_use_checks : (need : Need) (vector : List ℕ) → first_failing (use_checks need vector) ≡ None → Allows need vector
by_use_checks need vector is =
    let part = check_passes 17 (not need.parts && is_part_of vector) (vector_use_checks need vector) is in
    allows need vector (ap (λ b. first_failing (check 17 b ∷ [])) part.0) part.1

by_key_checks : (need : Need) (held : Registers) (bytes : List ℕ) → first_failing (key_checks need held bytes) ≡ None → Allows need (vector_bytes_of bytes)
by_key_checks need held bytes is =
    let read : first_failing (read_checks need held (token_of bytes)) ≡ None = both_pass (token_checks need.asked bytes) (read_checks need held (token_of bytes)) is in
    let part = check_passes 17 (not need.parts && is_part_of (vector_bytes_of bytes)) (pattern_check held (token_of bytes) ∷ vector_use_checks need (vector_bytes_of bytes)) read in
    let pattern = check_passes 18 (pattern_check held (token_of bytes)).fails (vector_use_checks need (vector_bytes_of bytes)) part.1 in
    allows need (vector_bytes_of bytes) (ap (λ b. first_failing (check 17 b ∷ [])) part.0) pattern.1

-- ---- the key of an operand

-- a token's key has the token's control vector
or_vector : (register : Option MasterKey) (age : Age) (bytes : List ℕ) (other : Option Denoted) → ((key : Denoted) → other ≡ Some key → key.clear.vector ≡ vector_bytes_of bytes)
    → (key : Denoted) → denoted_or register age bytes other ≡ Some key → key.clear.vector ≡ vector_bytes_of bytes
or_vector None age bytes other otherwise key is = otherwise key is
or_vector (Some master) age bytes other otherwise key is = by_pattern (bytes_eq (pattern_of_token bytes) master.pattern) is
  where
    vector_or : Option Denoted → List ℕ
    vector_or None = []
    vector_or (Some d) = d.clear.vector

    by_pattern : (t : Bool) → (if t then Some (record { clear = clear_of master.key bytes; age = age }) else other) ≡ Some key → key.clear.vector ≡ vector_bytes_of bytes
    by_pattern true same = sym (ap vector_or same)
    by_pattern false same = otherwise key same

pub token_vector : (masters : MasterKeys) (bytes : List ℕ) (key : Denoted) → denoted masters bytes ≡ Some key → key.clear.vector ≡ vector_bytes_of bytes
unfolding denoted
token_vector masters bytes key is = by_test (is_token asked.Internal bytes) is
  where
    none_other : (k : Denoted) → None ≡ Some k → k.clear.vector ≡ vector_bytes_of bytes
    none_other k same = cc

    by_test : (t : Bool) → (if t then denoted_or masters.current Current bytes (denoted_or masters.former Old bytes None) else None) ≡ Some key → key.clear.vector ≡ vector_bytes_of bytes
    by_test true same = or_vector masters.current Current bytes _ (or_vector masters.former Old bytes None none_other) key same
    by_test false same = none_other key same

-- ---- a key operand represents a key

-- what holds of the control vectors of keys holds of weaker facts too
pub weaker : (P Q : List ℕ → Type 0) (o : Option Denoted) → ((vector : List ℕ) → P vector → Q vector) → IsKeyWith P o → IsKeyWith Q o
weaker P Q None gives is = absurd is
weaker P Q (Some key) gives is = gives key.clear.vector is

-- by the register that has the pattern of the token
module _ (P : List ℕ → Type 0) (bytes : List ℕ) (allows : P (vector_bytes_of bytes)) where
  by_old : (former : Option (List ℕ)) → is_none (if has_pattern (pattern_in former) (pattern_of_token bytes) then Some Old else None) ≡ false
      → IsKeyWith P (denoted_or (master_key former) Old bytes None)
  by_old None some = cc some
  by_old (Some x) some = by_test (bytes_eq (pattern_of_token bytes) (pattern_of_master x)) some
    where
      by_test : (t : Bool) → is_none (if t then Some Old else None) ≡ false
          → IsKeyWith P (if t then Some (record { clear = clear_of x bytes; age = Old }) else None)
      by_test true has = allows
      by_test false has = cc has

  by_current : (current former : Option (List ℕ)) → is_none (if has_pattern (pattern_in current) (pattern_of_token bytes) then Some Current else if has_pattern (pattern_in former) (pattern_of_token bytes) then Some Old else None) ≡ false
      → IsKeyWith P (denoted_or (master_key current) Current bytes (denoted_or (master_key former) Old bytes None))
  by_current None former some = by_old former some
  by_current (Some x) former some = by_test (bytes_eq (pattern_of_token bytes) (pattern_of_master x)) some
    where
      by_test : (t : Bool) → is_none (if t then Some Current else if has_pattern (pattern_in former) (pattern_of_token bytes) then Some Old else None) ≡ false
          → IsKeyWith P (if t then Some (record { clear = clear_of x bytes; age = Current }) else denoted_or (master_key former) Old bytes None)
      by_test true has = allows
      by_test false has = by_old former has

-- the rules of a header behind that of its kind
abbrev behind_kind : List ℕ → List Check
behind_kind bytes =
    check 10 (not (stored_tvv bytes == tvv_of bytes))
    ∷ check 11 (not (slice_index bytes 4 == 0x00))
    ∷ check 12 (not (has_flag bytes))
    ∷ check 13 (not (reserved_is_zero bytes))
    ∷ []

-- byte 0 of an internal token
internal_kind : (byte : ℕ) → (byte == 0x01) ≡ true → kind_at byte ≡ Internal
internal_kind byte is = ap (λ t. if t then Internal else External) is

module _ (s : State) (need : Need) (bytes : List ℕ) (asks : need.asked ≡ asked.Internal) (passes : first_failing (key_checks need (registers_of s.registers) bytes) ≡ None) where
  token_passes : first_failing (token_checks asked.Internal bytes) ≡ None
  token_passes =
      subst (λ (a : Asked). first_failing (token_checks a bytes) ≡ None) asks
      (none_in_first (token_checks need.asked bytes) (read_checks need (registers_of s.registers) (token_of bytes)) passes)

  is_internal : kind_of bytes ≡ Internal
  is_internal =
      let header : first_failing (header_checks asked.Internal bytes) ≡ None =
      none_in_first (header_checks asked.Internal bytes) (vector_checks (vector_bytes_of bytes) ++ check 16 (not (has_right_half bytes)) ∷ []) token_passes in
      internal_kind (slice_index bytes 0) (passes_first 9 (slice_index bytes 0 == 0x01) (behind_kind bytes) header)

  reads : first_failing (read_checks need (registers_of s.registers) (token_of bytes)) ≡ None
  reads = both_pass (token_checks need.asked bytes) (read_checks need (registers_of s.registers) (token_of bytes)) passes

  has_register : is_none (register_with (registers_of s.registers) (pattern_of_token bytes)) ≡ false
  has_register =
      let part = check_passes 17 (not need.parts && is_part_of (vector_bytes_of bytes))
      (pattern_check (registers_of s.registers) (token_of bytes) ∷ vector_use_checks need (vector_bytes_of bytes)) reads in
      let pattern = check_passes 18 (is_under_none (registers_of s.registers) (kind_of bytes) (pattern_of_token bytes)) (vector_use_checks need (vector_bytes_of bytes)) part.1 in
      sym (ap (λ (k : Kind). is_under_none (registers_of s.registers) k (pattern_of_token bytes)) is_internal) ∙ pattern.0

  pub token_allows : IsKeyWith (Allows need) (denoted (keys_of s.registers) bytes)
  unfolding denoted
  token_allows =
      subst (IsKeyWith (Allows need))
      (sym (ap (λ (v : Option ℕ). if is_none v then denoted_or (keys_of s.registers).current Current bytes (denoted_or (keys_of s.registers).former Old bytes None) else None) token_passes))
      (by_current (Allows need) bytes (by_key_checks need (registers_of s.registers) bytes passes) s.registers.current s.registers.former has_register)

-- a label of whose record the rules ask
pub label_allows : (s : State) (need : Need) (label : List ℕ) → first_failing (record_checks s label ++ use_checks need (or_no_key (key_of_label s label)).clear.vector) ≡ None
    → IsKeyWith (Allows need) (key_of_label s label)
label_allows s need label passes =
    let whole = none_in_first (record_checks s label) (use_checks need (or_no_key (key_of_label s label)).clear.vector) passes in
    let well = check_passes 6 (not (is_label label)) (check 7 (is_none (cell_with s label)) ∷ check 8 (is_none (key_of_label s label)) ∷ []) whole in
    let there = check_passes 7 (is_none (cell_with s label)) (check 8 (is_none (key_of_label s label)) ∷ []) well.1 in
    let full = check_passes 8 (is_none (key_of_label s label)) [] there.1 in
    by_key (key_of_label s label) full.0
    (by_use_checks need (or_no_key (key_of_label s label)).clear.vector (both_pass (record_checks s label) (use_checks need (or_no_key (key_of_label s label)).clear.vector) passes))
  where
    by_key : (o : Option Denoted) → is_none o ≡ false → Allows need (or_no_key o).clear.vector → IsKeyWith (Allows need) o
    by_key None some allows = cc some
    by_key (Some key) some allows = allows

key_allows : (s : State) (need : Need) (text : List ℕ) (named : Option (List ℕ)) → need.asked ≡ asked.Internal
    → first_failing (key_questions s need named text) ≡ None → IsKeyWith (Allows need) (key_named s named text)
key_allows s need text None asks passes = token_allows s need (key_bytes text) asks passes
key_allows s need text (Some label) asks passes = label_allows s need label passes

-- ---- the operands of a permitted request

pub first_passes : (s : State) (o : Operand) (os : List Operand) → first_refusal (operand_questions s (o ∷ os)) ≡ None
    → (first_failing (operand_checks s o.text o.ask) ≡ None) × (first_refusal (operand_questions s os) ≡ None)
first_passes s o os is = refused_none (first_failing (operand_checks s o.text o.ask)) o.name (first_refusal (operand_questions s os)) is

-- each key that the table asks for is an internal one
abbrev AsksInternal : Ask → Type 0
AsksInternal (ask.Key need) = need.asked ≡ asked.Internal
AsksInternal _ = ⊤

first_internal : (form : Form) → (first_transport form).asked ≡ asked.Internal
first_internal Op = refl
first_internal Opex = refl
first_internal Opim = refl
first_internal Imex = refl
first_internal Exex = refl
first_internal Imim = refl

second_internal : (form : Form) → (second_transport form).asked ≡ asked.Internal
second_internal Op = refl
second_internal Opex = refl
second_internal Opim = refl
second_internal Imex = refl
second_internal Exex = refl
second_internal Imim = refl

abbrev AskInternal : Operands → Type 0
AskInternal os = AsksInternal os.first.ask × AsksInternal os.second.ask × AsksInternal os.third.ask

table_internal : (name : RequestName) (r : Request) → AskInternal (operands_of name r)
table_internal Csnbktp r = (tt, tt, tt)
table_internal Csnbenc r = (refl, tt, tt)
table_internal CsnbencFirst r = (refl, tt, tt)
table_internal CsnbencMiddle r = (refl, tt, tt)
table_internal CsnbencLast r = (refl, tt, tt)
table_internal Csnbdec r = (refl, tt, tt)
table_internal CsnbdecFirst r = (refl, tt, tt)
table_internal CsnbdecMiddle r = (refl, tt, tt)
table_internal CsnbdecLast r = (refl, tt, tt)
table_internal Csnbmgn r = (refl, tt, tt)
table_internal CsnbmgnFirst r = (refl, tt, tt)
table_internal CsnbmgnMiddle r = (refl, tt, tt)
table_internal CsnbmgnLast r = (refl, tt, tt)
table_internal Csnbmvr r = (refl, tt, tt)
table_internal CsnbmvrFirst r = (refl, tt, tt)
table_internal CsnbmvrMiddle r = (refl, tt, tt)
table_internal CsnbmvrLast r = (refl, tt, tt)
table_internal Csnbkyt r = (refl, tt, tt)
table_internal CsnbkgnPair r = (second_internal (pair_form_named (value_of r (codes "form"))), tt, tt)
table_internal CsnbkgnOut r =
    (first_internal (out_form_named (value_of r (codes "form"))), second_internal (out_form_named (value_of r (codes "form"))), tt)
table_internal Csnbkim r = (tt, refl, tt)
table_internal Csnbkex r = (refl, refl, tt)
table_internal Csnbpex r = (refl, tt, tt)
table_internal CsnbkpiMiddle r = (refl, tt, tt)
table_internal Csnbktr r = (tt, refl, refl)
table_internal _ r = (tt, tt, tt)

module _ (s : State) (random : List ℕ) (r : Request) (permits_it : verdict s random r ≡ None) where
  -- what is asked of the operand is passed, and an internal key is asked for
  Passes : Operand → Type 0
  Passes o = (first_failing (operand_checks s o.text o.ask) ≡ None) × AsksInternal o.ask

  one_passes : (o : Operand) → IsOperandOf r o → Passes o
  unfolding Passes
  one_passes o is =
      let one = first_passes s (operands r).first ((operands r).second ∷ (operands r).third ∷ []) (permitted s random r permits_it).operands in
      let two = first_passes s (operands r).second ((operands r).third ∷ []) one.1 in
      let three = first_passes s (operands r).third [] two.1 in
      let asks = table_internal r.name r in
      ⊎_elim (λ (e : o ≡ (operands r).first). subst Passes (sym e) (one.0, asks.0))
      (λ (later : (o ≡ (operands r).second) ⊎ (o ≡ (operands r).third)).
      ⊎_elim (λ (e : o ≡ (operands r).second). subst Passes (sym e) (two.0, asks.1)) (λ (e : o ≡ (operands r).third). subst Passes (sym e) (three.0, asks.2)) later)
      is

pub operand_allows : (s : State) (random : List ℕ) (r : Request) (o : Operand) (need : Need) → verdict s random r ≡ None → IsOperandOf r o → o.ask ≡ ask.Key need
    → IsKeyWith (Allows need) (key_in_text s o.text)
unfolding Passes
operand_allows s random r o need permits_it is asks =
    let passes : (first_failing (operand_checks s o.text o.ask) ≡ None) × AsksInternal o.ask = one_passes s random r permits_it o is in
    key_allows s need o.text (label_named o.text) (subst AsksInternal asks passes.1) (subst (λ (a : Ask). first_failing (operand_checks s o.text a) ≡ None) asks passes.0)

-- ---- verb by verb

-- the operands behind the first one
abbrev pub behind : RequestName → Request → List Operand
behind name r = (operands_of name r).second ∷ (operands_of name r).third ∷ []

-- a transport key
carries : (need : Need) (class : Class) (use_of : Usage) (o : Option Denoted) → need ≡ transport_key class use_of → IsKeyWith (Allows need) o → MayCarry class use_of o
carries need class use_of o is allows =
    weaker (Allows (transport_key class use_of)) _ o (λ vector a. ((a.class, a.usage use_of refl, a.double refl), a.part refl))
    (subst (λ (n : Need). IsKeyWith (Allows n) o) is allows)

module _ (s : State) (r : Request) where
  -- the first operand, and those behind it
  of_first : (need : Need) (name text : List ℕ) (os : List Operand) → need.asked ≡ asked.Internal
      → first_refusal (operand_questions s (record { name = name; text = text; ask = ask.Key need } ∷ os)) ≡ None → IsKeyWith (Allows need) (key_in_text s text)
  of_first need name text os asks passes =
      key_allows s need text (label_named text) asks (first_passes s (record { name = name; text = text; ask = ask.Key need }) os passes).0

  of_second : (need : Need) (first : Operand) (name text : List ℕ) (os : List Operand) → need.asked ≡ asked.Internal
      → first_refusal (operand_questions s (first ∷ record { name = name; text = text; ask = ask.Key need } ∷ os)) ≡ None → IsKeyWith (Allows need) (key_in_text s text)
  of_second need first name text os asks passes =
      of_first need name text os asks (first_passes s first (record { name = name; text = text; ask = ask.Key need } ∷ os) passes).1

  of_third : (need : Need) (first second : Operand) (name text : List ℕ) → need.asked ≡ asked.Internal
      → first_refusal (operand_questions s (first ∷ second ∷ record { name = name; text = text; ask = ask.Key need } ∷ [])) ≡ None → IsKeyWith (Allows need) (key_in_text s text)
  of_third need first second name text asks passes =
      of_second need second name text [] asks (first_passes s first (second ∷ record { name = name; text = text; ask = ask.Key need } ∷ []) passes).1

  -- the operand `key`, alone
  of_text : (use_of : Usage) (classes : List Class) → first_refusal (operand_questions s (listed (key_operand r classes (Some use_of)))) ≡ None
      → IsKeyWith (λ vector. (has (classes_of classes) (class_of vector) ≡ true) × (permits vector use_of ≡ true) × IsComplete vector) (key_in_text s (value_of r (codes "key")))
  of_text use_of classes ops =
      weaker (Allows (internal_key classes (Some use_of))) _ (key_in_text s (value_of r (codes "key"))) (λ vector a. (a.class, a.usage use_of refl, a.part refl))
      (of_first (internal_key classes (Some use_of)) (codes "key") (value_of r (codes "key")) (no_operand ∷ no_operand ∷ []) refl ops)

  -- a complete key of a known class
  of_tested : (os : List Operand) → first_refusal (operand_questions s (operand r (codes "key") (ask.Key (internal_key five_classes None)) ∷ os)) ≡ None
      → IsKeyWith MayTest (key_in_text s (value_of r (codes "key")))
  of_tested os ops =
      weaker (Allows (internal_key five_classes None)) MayTest (key_in_text s (value_of r (codes "key"))) (λ vector a. (a.class, a.part refl))
      (of_first (internal_key five_classes None) (codes "key") (value_of r (codes "key")) os refl ops)

  of_part : (o : Option Denoted) → IsKeyWith (Allows part_key) o → is_part_of (or_no_key o).clear.vector ≡ true → IsKeyWith MayCombine o
  of_part None allows part = absurd allows
  of_part (Some key) allows part = (allows.class, part)

  pub text_allows : (name : RequestName) → first_refusal (operand_questions s (listed (operands_of name r))) ≡ None → first_refusal (verb_questions s name r) ≡ None
      → MayWork name (key_in_text s (value_of r (codes "key")))
  text_allows Csnbenc ops verb = of_text Encipher (Data ∷ Cipher ∷ []) ops
  text_allows CsnbencFirst ops verb = of_text Encipher (Data ∷ Cipher ∷ []) ops
  text_allows CsnbencMiddle ops verb = of_text Encipher (Data ∷ Cipher ∷ []) ops
  text_allows CsnbencLast ops verb = of_text Encipher (Data ∷ Cipher ∷ []) ops
  text_allows Csnbdec ops verb = of_text Decipher (Data ∷ Cipher ∷ []) ops
  text_allows CsnbdecFirst ops verb = of_text Decipher (Data ∷ Cipher ∷ []) ops
  text_allows CsnbdecMiddle ops verb = of_text Decipher (Data ∷ Cipher ∷ []) ops
  text_allows CsnbdecLast ops verb = of_text Decipher (Data ∷ Cipher ∷ []) ops
  text_allows Csnbmgn ops verb = of_text MacGenerate (Data ∷ Mac ∷ []) ops
  text_allows CsnbmgnFirst ops verb = of_text MacGenerate (Data ∷ Mac ∷ []) ops
  text_allows CsnbmgnMiddle ops verb = of_text MacGenerate (Data ∷ Mac ∷ []) ops
  text_allows CsnbmgnLast ops verb = of_text MacGenerate (Data ∷ Mac ∷ []) ops
  text_allows Csnbmvr ops verb = of_text MacVerify (Data ∷ Mac ∷ []) ops
  text_allows CsnbmvrFirst ops verb = of_text MacVerify (Data ∷ Mac ∷ []) ops
  text_allows CsnbmvrMiddle ops verb = of_text MacVerify (Data ∷ Mac ∷ []) ops
  text_allows CsnbmvrLast ops verb = of_text MacVerify (Data ∷ Mac ∷ []) ops
  text_allows Csnbkyt ops verb = of_tested (behind Csnbkyt r) ops
  text_allows Csnbkex ops verb =
      weaker (Allows exported_key) MayExport (key_in_text s (value_of r (codes "key"))) (λ vector a. (a.export refl, a.part refl))
      (of_first exported_key (codes "key") (value_of r (codes "key")) (behind Csnbkex r) refl ops)
  text_allows Csnbpex ops verb = of_tested (behind Csnbpex r) ops
  text_allows CsnbkpiMiddle ops verb =
      let length_is = refused_none (first_failing (part_length_checks (key_of_request s r).vector (part_size r))) (codes "part") _ verb in
      let whole = refused_none (first_failing (whole_key_checks (key_of_request s r).vector)) (codes "key") None length_is.1 in
      of_part (key_in_text s (value_of r (codes "key"))) (of_first part_key (codes "key") (value_of r (codes "key")) (behind CsnbkpiMiddle r) refl ops)
      (not_false (is_part_of (key_of_request s r).vector) (check_passes 35 (not (is_part_of (key_of_request s r).vector)) [] whole.0).0)
  text_allows _ ops verb = tt

  pub transport_allows : (name : RequestName) → first_refusal (operand_questions s (listed (operands_of name r))) ≡ None
      → HasTransport name (key_in_text s (value_of r (codes "transport")))
  transport_allows Csnbkex ops =
      carries (transport_key Exporter Transport) Exporter Transport _ refl
      (of_second (transport_key Exporter Transport) (operands_of Csnbkex r).first (codes "transport") (value_of r (codes "transport")) ((operands_of Csnbkex r).third ∷ []) refl ops)
  transport_allows Csnbkim ops =
      carries (transport_key Importer Transport) Importer Transport _ refl
      (of_second (transport_key Importer Transport) (operands_of Csnbkim r).first (codes "transport") (value_of r (codes "transport")) ((operands_of Csnbkim r).third ∷ []) refl ops)
  transport_allows _ ops = tt

  pub first_allows : (name : RequestName) → first_refusal (operand_questions s (listed (operands_of name r))) ≡ None
      → HasFirstTransport name (value_of r (codes "form")) (key_in_text s (value_of r (codes "transport1")))
  first_allows Csnbktr ops =
      carries (transport_key Importer Translate) Importer Translate _ refl
      (of_second (transport_key Importer Translate) (operands_of Csnbktr r).first (codes "transport1") (value_of r (codes "transport1")) ((operands_of Csnbktr r).third ∷ []) refl ops)
  first_allows CsnbkgnOut ops =
      let form : Form = out_form_named (value_of r (codes "form")) in
      let allows = of_first (first_transport form) (codes "transport1") (value_of r (codes "transport1")) (behind CsnbkgnOut r) (first_internal form) ops in (
        λ (is : value_of r (codes "form") ≡ codes "IMEX"). carries (first_transport form) Importer PairImportExport _ (ap (λ text. first_transport (out_form_named text)) is) allows,
        λ (is : value_of r (codes "form") ≡ codes "EXEX"). carries (first_transport form) Exporter PairSame _ (ap (λ text. first_transport (out_form_named text)) is) allows,
        λ (is : value_of r (codes "form") ≡ codes "IMIM"). carries (first_transport form) Importer PairSame _ (ap (λ text. first_transport (out_form_named text)) is) allows,
      )
  first_allows _ ops = tt

  pub second_allows : (name : RequestName) → first_refusal (operand_questions s (listed (operands_of name r))) ≡ None
      → HasSecondTransport name (value_of r (codes "form")) (key_in_text s (value_of r (codes "transport2")))
  second_allows Csnbktr ops =
      carries (transport_key Exporter Translate) Exporter Translate _ refl
      (of_third (transport_key Exporter Translate) (operands_of Csnbktr r).first (operands_of Csnbktr r).second (codes "transport2") (value_of r (codes "transport2")) refl ops)
  second_allows CsnbkgnPair ops =
      let form : Form = pair_form_named (value_of r (codes "form")) in
      let allows = of_first (second_transport form) (codes "transport2") (value_of r (codes "transport2")) (behind CsnbkgnPair r) (second_internal form) ops in (
        λ (is : value_of r (codes "form") ≡ codes "OPEX"). carries (second_transport form) Exporter PairOperational _ (ap (λ text. second_transport (pair_form_named text)) is) allows,
        λ (is : value_of r (codes "form") ≡ codes "OPIM"). carries (second_transport form) Importer PairOperational _ (ap (λ text. second_transport (pair_form_named text)) is) allows,
      )
  second_allows CsnbkgnOut ops =
      let form : Form = out_form_named (value_of r (codes "form")) in
      let allows =
      of_second (second_transport form) (operands_of CsnbkgnOut r).first (codes "transport2") (value_of r (codes "transport2")) ((operands_of CsnbkgnOut r).third ∷ []) (second_internal form) ops in (
        λ (is : value_of r (codes "form") ≡ codes "IMEX"). carries (second_transport form) Exporter PairImportExport _ (ap (λ text. second_transport (out_form_named text)) is) allows,
        λ (is : value_of r (codes "form") ≡ codes "EXEX"). carries (second_transport form) Exporter PairSame _ (ap (λ text. second_transport (out_form_named text)) is) allows,
        λ (is : value_of r (codes "form") ≡ codes "IMIM"). carries (second_transport form) Importer PairSame _ (ap (λ text. second_transport (out_form_named text)) is) allows,
      )
  second_allows _ ops = tt

module _ (s : State) (random : List ℕ) (r : Request) (permits_it : verdict s random r ≡ None) where
  pub text_key : MayWork r.name (key_in_text s (value_of r (codes "key")))
  text_key = let p = permitted s random r permits_it in text_allows s r r.name p.operands p.verb

  pub transport_is : HasTransport r.name (key_in_text s (value_of r (codes "transport")))
  transport_is = transport_allows s r r.name (permitted s random r permits_it).operands

  pub transport1_is : HasFirstTransport r.name (value_of r (codes "form")) (key_in_text s (value_of r (codes "transport1")))
  transport1_is = first_allows s r r.name (permitted s random r permits_it).operands

  pub transport2_is : HasSecondTransport r.name (value_of r (codes "form")) (key_in_text s (value_of r (codes "transport2")))
  transport2_is = second_allows s r r.name (permitted s random r permits_it).operands

-- ---- external tokens

-- an internal token begins with X'01', and none at all with X'00'
sealed_first : (master : Option MasterKey) (clear : ClearKey) → slice_index (sealed_token master clear) 0 ≡ 0x02 → ⊥
unfolding made
sealed_first None clear is = cc is
sealed_first (Some master) clear is = cc is

token_first : (masters : MasterKeys) (d : Denoted) → slice_index (token_for masters d) 0 ≡ 0x02 → ⊥
unfolding token_for
token_first masters d is = sealed_first (master_under masters d.age) d.clear is

changed_first : (m : Masters) (t : Target) (clear : ClearKey) → slice_index (changed_token m t clear) 0 ≡ 0x02 → ⊥
unfolding new_token
changed_first m ToCurrent clear is = token_first (keys_of m) _ is
changed_first m New clear is = sealed_first (master_key (full_bytes m.coming)) clear is

delivered_internal : (s : State) (field : List ℕ) (to : Option (List ℕ)) (key : Denoted) → is_token_field field ≡ true → EffectShows IsInternal (delivered_with s field to key [])
delivered_internal s field None key is = subst (λ t. IfToken IsInternal t (token_for (keys_of s.registers) key) ⊤) (sym is) (token_first (keys_of s.registers) key, tt)
delivered_internal s field (Some label) key is = tt

internal : (s : State) (drawn : List ℕ) (name : RequestName) (r : Request) → gives_external name ≡ false → EffectShows IsInternal (effect s drawn name r)
unfolding label_fields
internal s drawn Csnbcki r none = delivered_internal s (codes "token") (label_named (value_of r (codes "to"))) _ refl
internal s drawn CsnbkgnOp r none = delivered_internal s (codes "token1") (label_named (value_of r (codes "to"))) _ refl
internal s drawn Csnbkim r none = delivered_internal s (codes "token") (label_named (value_of r (codes "to"))) _ refl
internal s drawn Csnbpex r none = delivered_internal s (codes "token") (label_named (value_of r (codes "to"))) _ refl
internal s drawn CsnbkpiFirst r none = delivered_internal s (codes "token") (label_named (value_of r (codes "to"))) _ refl
internal s drawn CsnbkpiMiddle r none = delivered_internal s (codes "token") (label_named (value_of r (codes "to"))) _ refl
internal s drawn Csnbktc r none = (changed_first s.registers (target_named (value_of r (codes "rule"))) _, tt)
internal s drawn Csnbkrr r none = (token_first (keys_of s.registers) _, tt)
internal s drawn Csnbkrl r none = tt
internal s drawn Csnbkex r none = cc none
internal s drawn Csnbktr r none = cc none
internal s drawn CsnbkgnPair r none = cc none
internal s drawn CsnbkgnOut r none = cc none
internal s drawn _ r none = tt

-- the reply to a request that no rule refuses
pub effected_internal : (s : State) (drawn : List ℕ) (r : Request) → gives_external r.name ≡ false → ShowsNoExternal (effected s r (effect s drawn r.name r)).reply
effected_internal s drawn r none =
    each-append IsInternal (fields_after s (effect s drawn r.name r)) (warning (any_old s (listed (operands r))))
    (fields_have IsInternal s (effect s drawn r.name r) (internal s drawn r.name r none)) (warning_has IsInternal (any_old s (listed (operands r))))

pub shows_no_external : (s : State) (drawn : List ℕ) (r : Request) → gives_external r.name ≡ false → ShowsNoExternal (performed s drawn r).reply
unfolding performed
shows_no_external s drawn r none = by_verdict (verdict s drawn r)
  where
    by_verdict : (v : Option Refusal) → ShowsNoExternal (or_act v s drawn r).reply
    by_verdict (Some refusal) = tt
    by_verdict None = effected_internal s drawn r none
