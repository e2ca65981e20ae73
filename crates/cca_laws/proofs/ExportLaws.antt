-- A request that passes a key on never turns its export bit on again.
use Rattle.std.proofs.Common.{◌≡◌, ◌≢◌, ⊎_elim, ℕ, ◌<◌, ◌≤◌, Bool, true, false, not, List, [], ◌∷◌, ◌++◌, length, Option, None, Some, refl, sym, ap, subst, ◌∙◌, codes, true≢false, arith}
use Rattle.std.specs.Prelude.{◌&&◌, ◌==◌, if◌then◌else◌, is_none, slice_index}
use Rattle.std.specs.Str.{bytes_eq}
use Rattle.std.proofs.lemmas.Bool.{cases_lt}
use Rattle.std.proofs.lemmas.List.{get_or_past, length-take}
use Rattle.std.proofs.lemmas.Slice.Eq.{bytes_eq-Decides}
use Rattle.std.proofs.lemmas.Option.{same_Some}
use Rattle.device_cells.specs.Cells.{body}
use Rattle.cca_vectors.specs.Checks.{Check, check, first_failing}
use Rattle.cca_vectors.specs.Permissions.{is_exportable}
use Rattle.cca_vectors.specs.VectorChecks.{vector_checks}
use Rattle.cca_vectors.proofs.Judging.{none_in_first, passed_over}
use Rattle.key_parts.specs.Parts.{combined_key}
use Rattle.record_bodies.specs.Entries.{Entry}
use Rattle.record_bodies.specs.RecordBody.{ReadsEntry, ReadsWhat, kept}
use Rattle.record_bodies.specs.StoreStands.{entry_at}
use Rattle.key_tokens.specs.Denotes.{ClearKey, Denoted, MasterKey, clear_of, denoted, denoted_or, denoted_under, is_token}
use Rattle.key_tokens.specs.Fields.{pattern_of_token, token_of, vector_bytes_of}
use Rattle.key_tokens.specs.TokenChecks.{has_right_half, header_checks, token_checks}
use Rattle.key_tokens.specs.declared.key_token.Age.{Age}
use Rattle.key_tokens.specs.declared.key_token.Age.TheVariants.{Current, Old}
use Rattle.key_tokens.specs.declared.key_token.Asked.TheVariants as asked
use Rattle.key_transport.specs.Tokens.{as_current, changed_token, closed_key, full_bytes, new_token}
use Rattle.key_transport.specs.declared.changing.Target.{Target}
use Rattle.key_transport.specs.declared.changing.Target.TheVariants.{Current as ToCurrent, New}
use Rattle.master_registers.specs.Loaded.{registers_of}
use Rattle.master_registers.specs.Masters.{Empty, Full, Masters, NewRegister, Partial, is_full}
use Rattle.multi_encipher.specs.Bundles.{transport_bundle}
use Rattle.line_service.specs.Replies.{Field, Hex}
use Rattle.verb_rules.specs.KeyChecks.{read_checks}
use Rattle.verb_rules.specs.Keys.{keys_of, master_key, master_under, sealed_token, token_for}
use Rattle.verb_script.specs.Grammar.{Request, value_of}
use Rattle.verb_script.specs.declared.rows.RequestName.{RequestName}
use Rattle.verb_script.specs.declared.rows.RequestName.TheVariants.{Csnbkim, Csnbkex, Csnbpex, Csnbktc, CsnbkpiMiddle, Csnbktr, Csnbkrw, Csnbkrr}
use Rattle.verb_script.specs.Named.{label_named}
use Rattle.cca_machine.specs.Act.{Effect, Show, Write, delivered_with, effect, fields_after, or_act, performed, state_after, token_out, written_in}
use Rattle.cca_machine.specs.Choices.{is_last_part, target_named}
use Rattle.cca_machine.specs.Keys.{any_old, cell_with, imported, key_bytes, key_in_field, key_in_text, key_named, key_of_label, key_of_request, key_of_token, or_no_clear, or_no_key, warning, what_at, what_in}
use Rattle.cca_machine.specs.Operands.{Operand, external_key, listed, operands, operands_of}
use Rattle.cca_machine.specs.State.{State, IsStoreOf}
use Rattle.cca_machine.specs.Verdict.{Refusal, bytes_in, change_questions, first_refusal, needs_master, operand_questions, part_in, verb_questions, verdict}
use Rattle.cca_machine.specs.declared.asking.Ask.TheVariants as ask
use Rattle.cca_laws.specs.Passing.{ForbidsExport, StaysUnexportable, passed_by, passed_vector, vector_of}
use Rattle.cca_laws.specs.ReplyTokens.{EachToken}
use Rattle.cca_laws.specs.Targets.{AreOther}
use Rattle.cca_laws.proofs.LineCases.{permitted, refused_none}
use Rattle.cca_laws.proofs.PartLaws.{key_found}
use Rattle.cca_laws.proofs.TokenFields.{EffectShows, each-append, fields_have, warning_has}
use Rattle.cca_laws.proofs.TokenVectors.{Forbids, closed_is, external_forbids, part_is_closed, sealed_forbids}
use Rattle.cca_laws.proofs.UseLaws.{behind, first_passes, token_vector}
use Rattle.key_tokens.proofs.DenotedKeys.{none_from_test}
use Rattle.cca_roles.proofs.DirectoryLaws.{none_some}

-- ---- the keys of tokens and of labels

-- an internal token under a master key of the state stands for the key
pub record HasToken (s : State) (key : Denoted) : Type 0 where
  pub bytes : List ℕ
  pub stands : denoted (keys_of s.registers) bytes ≡ Some key

labelled : (s : State) (image : List ℕ) (e : Option Entry) (bytes : List ℕ) (key : Denoted) → ReadsEntry (keys_of s.registers) bytes e → what_in e ≡ Some key
    → HasToken s key
unfolding kept
labelled s image None bytes key reads is = cc is
labelled s image (Some e) bytes key reads is =
    let what : ReadsWhat (keys_of s.registers) bytes e.label (Some key) e.ahead e.unused =
    subst (λ (o : Option Denoted). ReadsWhat (keys_of s.registers) bytes e.label o e.ahead e.unused) is reads.1 in
    record { bytes = what.token; stands = by_flag (slice_index what.token 6 == 0xc0) what.is_kept }
  where
    by_flag : {o : Option Denoted} (t : Bool) → (if t then o else None) ≡ Some key → o ≡ Some key
    by_flag true same = same
    by_flag false same = cc same

pub label_token : (s : State) (image label : List ℕ) (key : Denoted) → IsStoreOf s image → key_of_label s label ≡ Some key → HasToken s key
label_token s image label key stands is = by_cell (cell_with s label) is
  where
    at_cell : (cell : ℕ) → what_in (entry_at s.labels cell) ≡ Some key → HasToken s key
    at_cell cell has = ⊎_elim
        (λ (within : cell < 1024). labelled s image (entry_at s.labels cell) (body image cell) key (stands.reads cell within) has)
        (λ (past : 1024 ≤ cell).
        let none : entry_at s.labels cell ≡ None = get_or_past s.labels cell None (omega (arith, past, stands.size)) in
        let nothing : None ≡ Some key = sym (ap what_in none) ∙ has in cc)
        (cases_lt cell 1024)

    by_cell : (o : Option ℕ) → what_at s.labels o ≡ Some key → HasToken s key
    by_cell None has = cc has
    by_cell (Some cell) has = at_cell cell has

pub text_token : (s : State) (image text : List ℕ) (key : Denoted) → IsStoreOf s image → key_in_text s text ≡ Some key → HasToken s key
text_token s image text key stands is = by_name (label_named text) is
  where
    by_name : (o : Option (List ℕ)) → key_named s o text ≡ Some key → HasToken s key
    by_name None has = record { bytes = key_bytes text; stands = has }
    by_name (Some label) has = label_token s image label key stands has

if_token : (t : Bool) (o : Option Denoted) (key : Denoted) → (if t then o else None) ≡ Some key → (t ≡ true) × (o ≡ Some key)
if_token true o key is = (refl, is)
if_token false o key is = cc is

-- the master key of a register by the age
abbrev pub register_of : Masters → Age → Option (List ℕ)
register_of m Current = m.current
register_of m Old = m.former

pub under_register : (m : Masters) (age : Age) → master_under (keys_of m) age ≡ master_key (register_of m age)
under_register m Current = refl
under_register m Old = refl

some_register : (o : Option (List ℕ)) (key : MasterKey) → master_key o ≡ Some key → is_none o ≡ false
some_register None key is = cc is
some_register (Some bytes) key is = refl

-- the rules of a token behind those of its header
abbrev pub behind_header : List ℕ → List Check
behind_header bytes = vector_checks (vector_bytes_of bytes) ++ check 16 (not (has_right_half bytes)) ∷ []

module _ (s : State) (key : Denoted) (has : HasToken s key) where
  read : (is_token asked.Internal has.bytes ≡ true)
      × (denoted_or (keys_of s.registers).current Current has.bytes (denoted_or (keys_of s.registers).former Old has.bytes None) ≡ Some key)
  unfolding denoted
  read = if_token (is_token asked.Internal has.bytes) _ key has.stands

  vector_is : key.clear.vector ≡ vector_bytes_of has.bytes
  vector_is = token_vector (keys_of s.registers) has.bytes key has.stands

  -- the control vector breaks no rule, and has no more than 16 bytes
  pub vector_passes : first_failing (vector_checks key.clear.vector) ≡ None
  vector_passes =
      let whole : first_failing (token_checks asked.Internal has.bytes) ≡ None = none_from_test _ read.0 in
      let header = none_in_first (header_checks asked.Internal has.bytes) (behind_header has.bytes) whole in
      let rest = sym (passed_over (header_checks asked.Internal has.bytes) (behind_header has.bytes) header) ∙ whole in
      subst (λ v. first_failing (vector_checks v) ≡ None) (sym vector_is)
      (none_in_first (vector_checks (vector_bytes_of has.bytes)) (check 16 (not (has_right_half has.bytes)) ∷ []) rest)

  vector_short : length key.clear.vector ≤ 16
  vector_short = subst (λ v. length v ≤ 16) (sym vector_is) (simp length-take (omega arith))

  forbids : is_exportable key.clear.vector ≡ false → Forbids key.clear.vector
  forbids off = record { short = vector_short; off = off }

  -- the register of its master key is full
  pub full : is_none (register_of s.registers key.age) ≡ false
  full = by_registers (master_key s.registers.current) refl read.1
    where
      at_age : (age : Age) (clear : ClearKey) (master : MasterKey) → master_key (register_of s.registers age) ≡ Some master → (record { clear = clear; age = age }) ≡ key
          → is_none (register_of s.registers key.age) ≡ false
      at_age age clear master is same =
          ap (λ (d : Denoted). is_none (register_of s.registers d.age)) (sym same) ∙ some_register (register_of s.registers age) master is

      by_former : (o : Option MasterKey) → master_key s.registers.former ≡ o → denoted_or o Old has.bytes None ≡ Some key
          → is_none (register_of s.registers key.age) ≡ false
      by_former None is same = cc same
      by_former (Some master) is same =
          let both = if_token (bytes_eq (pattern_of_token has.bytes) master.pattern) _ key same in
          at_age Old (clear_of master.key has.bytes) master is (same_Some _ key both.1)

      former_or : Option Denoted
      former_or = denoted_or (master_key s.registers.former) Old has.bytes None

      by_registers : (o : Option MasterKey) → master_key s.registers.current ≡ o → denoted_or o Current has.bytes former_or ≡ Some key
          → is_none (register_of s.registers key.age) ≡ false
      by_registers None is same = by_former (master_key s.registers.former) refl same
      by_registers (Some master) is same = by_test (bytes_eq (pattern_of_token has.bytes) master.pattern) same
        where
          by_test : (t : Bool) → (if t then Some (record { clear = clear_of master.key has.bytes; age = Current }) else former_or) ≡ Some key
              → is_none (register_of s.registers key.age) ≡ false
          by_test true here = at_age Current (clear_of master.key has.bytes) master is (same_Some _ key here)
          by_test false there = by_former (master_key s.registers.former) refl there

-- the register of a label's key is full
pub label_register : (s : State) (image label : List ℕ) (key : Denoted) → IsStoreOf s image → key_of_label s label ≡ Some key
    → is_none (register_of s.registers key.age) ≡ false
label_register s image label key stands is = full s key (label_token s image label key stands is)

-- ---- the operand whose key is passed on

some_vector : (o : Option Denoted) (vector : List ℕ) → vector_of o ≡ Some vector → (key : Denoted) × (o ≡ Some key) × (key.clear.vector ≡ vector)
some_vector None vector is = cc is
some_vector (Some key) vector is = (key, refl, same_Some key.clear.vector vector is)

-- a key that is passed on, and forbids export
record IsPassed (s : State) (o : Option Denoted) : Type 0 where
  key : Denoted
  is : o ≡ Some key
  token : HasToken s key
  off : is_exportable key.clear.vector ≡ false

is_passed : (s : State) (o : Option Denoted) (vector : List ℕ) → ((key : Denoted) → o ≡ Some key → HasToken s key) → vector_of o ≡ Some vector
    → is_exportable vector ≡ false → IsPassed s o
is_passed s o vector token is off =
    let some = some_vector o vector is in
    record { key = some.0; is = some.1; token = token some.0 some.1; off = ap is_exportable some.2 ∙ off }

module _ (s : State) (o : Option Denoted) (p : IsPassed s o) where
  passed_key : or_no_key o ≡ p.key
  passed_key = ap or_no_key p.is

  passed_forbids : Forbids (or_no_key o).clear.vector
  passed_forbids = subst (λ (d : Denoted). Forbids d.clear.vector) (sym passed_key) (forbids s p.key p.token p.off)

-- ---- the effects

-- no token that the effect shows and no key that it writes may be exported
record IsClosed (e : Effect) : Type 0 where
  shown : EffectShows ForbidsExport e
  written : (label : List ℕ) (key : Denoted) (fields : List Field) → e ≡ Write label key fields → is_exportable key.clear.vector ≡ false

one_token : (bytes : List ℕ) → ForbidsExport bytes → IsClosed (Show (Hex (codes "token") bytes ∷ []))
one_token bytes off = record { shown = (off, tt); written = λ label key fields is. cc is }

written_key : (l label : List ℕ) (d key : Denoted) (fs fields : List Field) → Write l d fs ≡ Write label key fields → d ≡ key
written_key l label d key fs fields is = cc is

one_written : (label : List ℕ) (d : Denoted) (fs : List Field) → EachToken ForbidsExport fs → is_exportable d.clear.vector ≡ false → IsClosed (Write label d fs)
one_written label d fs shows off = record {
  shown = shows;
  written = λ l key fields is. subst (λ (k : Denoted). is_exportable k.clear.vector ≡ false) (written_key label l d key fs fields is) off;
}

token_for_forbids : (m : Masters) (d : Denoted) → is_none (register_of m d.age) ≡ false → Forbids d.clear.vector → ForbidsExport (token_for (keys_of m) d)
unfolding token_for
token_for_forbids m d some f =
    ap (λ (o : Option MasterKey). is_exportable (token_of (sealed_with o)).vector) (under_register m d.age) ∙ sealed_forbids (register_of m d.age) d.clear some f
  where
    sealed_with : Option MasterKey → List ℕ
    sealed_with o = sealed_token o d.clear

delivered_closed : (s : State) (to : Option (List ℕ)) (clear : ClearKey) → is_none s.registers.current ≡ false → Forbids clear.vector
    → IsClosed (delivered_with s (codes "token") to (as_current clear) [])
delivered_closed s None clear some f = one_token (token_for (keys_of s.registers) (as_current clear)) (token_for_forbids s.registers (as_current clear) some f)
delivered_closed s (Some label) clear some f = one_written label (as_current clear) _ tt f.off

-- a token that is changed to the new master key, where no rule refuses that
pub not_empty : (b : Bool) → first_failing (check 25 b ∷ []) ≡ None → b ≡ false
not_empty true is = cc is
not_empty false is = refl

pub full_new : (c : NewRegister) → not (is_full c) ≡ false → is_none (full_bytes c) ≡ false
full_new Empty is = cc is
full_new (Partial bytes) is = cc is
full_new (Full bytes) is = refl

changed_forbids : (s : State) (t : Target) (clear : ClearKey) → is_none s.registers.current ≡ false → first_refusal (change_questions s t) ≡ None → Forbids clear.vector
    → ForbidsExport (changed_token s.registers t clear)
unfolding new_token
changed_forbids s ToCurrent clear some passes f = token_for_forbids s.registers (as_current clear) some f
changed_forbids s New clear some passes f =
    sealed_forbids (full_bytes s.registers.coming) clear (full_new s.registers.coming (not_empty _ (refused_none _ (codes "-") None passes).0)) f

-- a key that is brought in from an external token
pub imported_vector : (transport : ClearKey) (bytes : List ℕ) → first_failing (token_checks asked.External bytes) ≡ None
    → (imported transport bytes).vector ≡ vector_bytes_of bytes
unfolding denoted_under
imported_vector transport bytes passes =
    ap (λ (o : Option ℕ). (or_no_clear (if is_none o then Some (clear_of (transport_bundle transport.key) bytes) else None)).vector) passes

pub external_passes : (s : State) (r : Request) (os : List Operand)
    → first_refusal (operand_questions s (record { name = codes "token"; text = value_of r (codes "token"); ask = ask.External external_key } ∷ os)) ≡ None
    → first_failing (token_checks asked.External (bytes_in r (codes "token"))) ≡ None
external_passes s r os ops =
    let first = (first_passes s (record { name = codes "token"; text = value_of r (codes "token"); ask = ask.External external_key }) os ops).0 in
    none_in_first (token_checks asked.External (bytes_in r (codes "token")))
    (read_checks external_key (registers_of s.registers) (token_of (bytes_in r (codes "token")))) first

imported_forbids : (transport : ClearKey) (bytes vector : List ℕ) → first_failing (token_checks asked.External bytes) ≡ None → Some (token_of bytes).vector ≡ Some vector
    → is_exportable vector ≡ false → Forbids (imported transport bytes).vector
imported_forbids transport bytes vector passes is off =
    subst Forbids (sym (imported_vector transport bytes passes))
    (record { short = simp length-take (omega arith); off = ap is_exportable (same_Some (vector_bytes_of bytes) vector is) ∙ off })

combined_forbids : (last : Bool) (clear : ClearKey) (part : List ℕ) → first_failing (vector_checks clear.vector) ≡ None → Forbids clear.vector
    → Forbids (combined_key last clear part).vector
combined_forbids true clear part passes f = part_is_closed clear.vector passes f
combined_forbids false clear part passes f = f

-- ---- each request

module _ (s : State) (image drawn : List ℕ) (stands : IsStoreOf s image) (r : Request) where
  key_passed : (vector : List ℕ) → vector_of (key_in_text s (value_of r (codes "key"))) ≡ Some vector → is_exportable vector ≡ false
      → IsPassed s (key_in_text s (value_of r (codes "key")))
  key_passed vector is off =
      is_passed s (key_in_text s (value_of r (codes "key"))) vector (λ key has. text_token s image (value_of r (codes "key")) key stands has) is off

  token_passed : (vector : List ℕ) → vector_of (key_of_token s (bytes_in r (codes "token"))) ≡ Some vector → is_exportable vector ≡ false
      → IsPassed s (key_of_token s (bytes_in r (codes "token")))
  token_passed vector is off =
      is_passed s (key_of_token s (bytes_in r (codes "token"))) vector (λ key has. record { bytes = bytes_in r (codes "token"); stands = has }) is off

  closed : (name : RequestName) (vector : List ℕ) → first_refusal (operand_questions s (listed (operands_of name r))) ≡ None
      → first_refusal (verb_questions s name r) ≡ None
      → (needs_master name && is_none s.registers.current) ≡ false → passed_by s name r ≡ Some vector → is_exportable vector ≡ false → IsClosed (effect s drawn name r)
  closed Csnbpex vector ops verb some is off =
      let f = passed_forbids s _ (key_passed vector is off) in
      delivered_closed s (label_named (value_of r (codes "to"))) (closed_key (key_of_request s r)) some
      (subst Forbids (sym (closed_is (key_of_request s r).vector f.off)) f)
  closed Csnbkex vector ops verb some is off =
      one_token (token_out s r (codes "transport") (key_of_request s r))
      (external_forbids (key_in_field s r (codes "transport")).key (key_of_request s r) (passed_forbids s _ (key_passed vector is off)))
  closed CsnbkpiMiddle vector ops verb some is off =
      let p = key_passed vector is off in
      let passes : first_failing (vector_checks (key_of_request s r).vector) ≡ None =
      subst (λ (d : Denoted). first_failing (vector_checks d.clear.vector) ≡ None) (sym (passed_key s _ p)) (vector_passes s p.key p.token) in
      delivered_closed s (label_named (value_of r (codes "to"))) (combined_key (is_last_part (value_of r (codes "rule"))) (key_of_request s r) (part_in r)) some
      (combined_forbids (is_last_part (value_of r (codes "rule"))) (key_of_request s r) (part_in r) passes (passed_forbids s _ p))
  closed Csnbkim vector ops verb some is off =
      delivered_closed s (label_named (value_of r (codes "to"))) (imported (key_in_field s r (codes "transport")) (bytes_in r (codes "token"))) some
      (imported_forbids (key_in_field s r (codes "transport")) (bytes_in r (codes "token")) vector (external_passes s r (behind Csnbkim r) ops) is off)
  closed Csnbktr vector ops verb some is off =
      one_token (token_out s r (codes "transport2") (imported (key_in_field s r (codes "transport1")) (bytes_in r (codes "token"))))
      (external_forbids (key_in_field s r (codes "transport2")).key (imported (key_in_field s r (codes "transport1")) (bytes_in r (codes "token")))
      (imported_forbids (key_in_field s r (codes "transport1")) (bytes_in r (codes "token")) vector (external_passes s r (behind Csnbktr r) ops) is off))
  closed Csnbktc vector ops verb some is off =
      one_token (changed_token s.registers (target_named (value_of r (codes "rule"))) (or_no_key (key_of_token s (bytes_in r (codes "token")))).clear)
      (changed_forbids s (target_named (value_of r (codes "rule"))) (or_no_key (key_of_token s (bytes_in r (codes "token")))).clear some verb
      (passed_forbids s _ (token_passed vector is off)))
  closed Csnbkrw vector ops verb some is off =
      one_written (value_of r (codes "label")) (or_no_key (key_of_token s (bytes_in r (codes "token")))) [] tt (passed_forbids s _ (token_passed vector is off)).off
  closed Csnbkrr vector ops verb some is off =
      let o : Option Denoted = key_of_label s (value_of r (codes "label")) in
      let p = is_passed s (key_of_label s (value_of r (codes "label"))) vector (λ key has. label_token s image (value_of r (codes "label")) key stands has) is off in
      one_token (token_for (keys_of s.registers) (or_no_key (key_of_label s (value_of r (codes "label")))))
      (token_for_forbids s.registers (or_no_key (key_of_label s (value_of r (codes "label"))))
      (subst (λ (d : Denoted). is_none (register_of s.registers d.age) ≡ false) (sym (passed_key s _ p)) (full s p.key p.token)) (passed_forbids s _ p))
  closed _ vector ops verb some is off = cc is

-- ---- the labels that are written

-- the effect writes this label
abbrev Writes : List ℕ → Effect → Type 0
Writes label (Write other key fields) = other ≡ label
Writes label _ = ⊥

same_label : (o l : List ℕ) → (Some o ≢ Some l → ⊥) → o ≡ l
same_label o l not_other = by_test (bytes_eq o l) refl
  where
    by_test : (t : Bool) → bytes_eq o l ≡ t → o ≡ l
    by_test true is = (bytes_eq-Decides o l).0 is
    by_test false is = absurd (not_other (λ same. true≢false (sym ((bytes_eq-Decides o l).1 (same_Some o l same)) ∙ is)))

delivers_there : (s : State) (field : List ℕ) (o : Option (List ℕ)) (key : Denoted) (fields : List Field) (label : List ℕ) → (o ≢ Some label → ⊥)
    → Writes label (delivered_with s field o key fields)
delivers_there s field None key fields label not_other = absurd (not_other (none_some label))
delivers_there s field (Some other) key fields label not_other = same_label other label not_other

-- a label that a request doesn't spare is the one that it writes
there : (s : State) (drawn : List ℕ) (name : RequestName) (r : Request) (vector : List ℕ) → passed_by s name r ≡ Some vector → (label : List ℕ)
    → (AreOther label (listed (operands_of name r)) → ⊥) → Writes label (effect s drawn name r)
there s drawn Csnbpex r vector is label given =
    delivers_there s (codes "token") (label_named (value_of r (codes "to"))) _ [] label (λ apart. given (none_some label, (apart, (none_some label, tt))))
there s drawn Csnbkex r vector is label given = given (none_some label, (none_some label, (none_some label, tt)))
there s drawn CsnbkpiMiddle r vector is label given =
    delivers_there s (codes "token") (label_named (value_of r (codes "to"))) _ [] label (λ apart. given (none_some label, (apart, (none_some label, tt))))
there s drawn Csnbkim r vector is label given =
    delivers_there s (codes "token") (label_named (value_of r (codes "to"))) _ [] label (λ apart. given (none_some label, (none_some label, (apart, tt))))
there s drawn Csnbktr r vector is label given = given (none_some label, (none_some label, (none_some label, tt)))
there s drawn Csnbktc r vector is label given = given (none_some label, (none_some label, (none_some label, tt)))
there s drawn Csnbkrw r vector is label given = same_label (value_of r (codes "label")) label (λ apart. given (apart, (none_some label, (none_some label, tt))))
there s drawn Csnbkrr r vector is label given = given (none_some label, (none_some label, (none_some label, tt)))
there s drawn _ r vector is label given = cc is

-- the key that the label then has
stored_key : (s : State) (label : List ℕ) (d key : Denoted) (fields : List Field) → key_of_label (state_after s (Write label d fields)) label ≡ Some key → d ≡ key
stored_key s label d key fields is = by_cell (cell_with s label) refl is
  where
    by_cell : (o : Option ℕ) → cell_with s label ≡ o → key_of_label (record s { labels = written_in o d s.labels }) label ≡ Some key → d ≡ key
    by_cell None none has = let nothing : None ≡ Some key = sym (ap (what_at s.labels) none) ∙ has in cc
    by_cell (Some cell) held has = same_Some d key (sym (key_found s label cell held d) ∙ has)

stored : (s : State) (e : Effect) (label : List ℕ) (key : Denoted) → IsClosed e → Writes label e → key_of_label (state_after s e) label ≡ Some key
    → is_exportable key.clear.vector ≡ false
stored s (Write other d fields) label key is there_ has =
    let here : key_of_label (state_after s (Write other d fields)) other ≡ Some key = ap (key_of_label (state_after s (Write other d fields))) there_ ∙ has in
    subst (λ (k : Denoted). is_exportable k.clear.vector ≡ false) (stored_key s other d key fields here) (is.written other d fields refl)
stored s _ label key is there_ has = absurd there_

-- ---- the law

pub stays_unexportable : (s : State) (image drawn vector : List ℕ) (r : Request) → IsStoreOf s image → verdict s drawn r ≡ None → passed_vector s r ≡ Some vector
    → is_exportable vector ≡ false
    → StaysUnexportable r (performed s drawn r)
unfolding performed
stays_unexportable s image drawn vector r stands permits is off =
    let p = permitted s drawn r permits in
    let e : Effect = effect s drawn r.name r in
    let shut : IsClosed (effect s drawn r.name r) = closed s image drawn stands r r.name vector p.operands p.verb p.master is off in
    subst (λ (v : Option Refusal). StaysUnexportable r (or_act v s drawn r)) (sym permits)
    (record {
      shown = each-append ForbidsExport (fields_after s (effect s drawn r.name r)) (warning (any_old s (listed (operands r))))
          (fields_have ForbidsExport s (effect s drawn r.name r) shut.shown) (warning_has ForbidsExport (any_old s (listed (operands r))));
      stored = λ label key given has. stored s (effect s drawn r.name r) label key shut (there s drawn r.name r vector is label given) has;
    })
