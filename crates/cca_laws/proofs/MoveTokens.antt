-- The external token of a label's key: it breaks no rule, and stands for the key under the transport key.
use Rattle.std.proofs.Common.{◌≡◌, ◌≢◌, ⊎_elim, ℕ, ◌<◌, ◌≤◌, Bool, true, false, List, [], length, get_or, replicate, Option, None, Some, refl, sym, ap, subst, ◌∙◌, arith}
use Rattle.std.specs.Prelude.{is_none, slice_index, if◌then◌else◌, ◌==◌}
use Rattle.std.proofs.lemmas.Bool.{cases_lt}
use Rattle.std.proofs.lemmas.List.{get_or_past}
use Rattle.std.proofs.lemmas.Option.{same_Some}
use Rattle.hex.specs.Hex.{IsBytes}
use Rattle.device_cells.specs.Cells.{body}
use Rattle.key_cells.specs.Bytes.{AreBytes}
use Rattle.key_cells.proofs.ByteLemmas.{IsZero-replicate}
use Rattle.cca_vectors.specs.Checks.{first_failing}
use Rattle.cca_vectors.specs.Vectors.{IsValid}
use Rattle.cca_roles.specs.Names.{IsLabel}
use Rattle.cca_roles.proofs.DirectoryLaws.{held_at}
use Rattle.record_bodies.specs.Directory.{cell_of}
use Rattle.record_bodies.specs.Entries.{Entry, directory, entry_label}
use Rattle.record_bodies.specs.RecordBody.{ReadsEntry, ReadsWhat, kept}
use Rattle.record_bodies.specs.StoreStands.{entry_at}
use Rattle.key_tokens.specs.Denotes.{ClearKey, Denoted, Denotes, HaveDistinctPatterns, MasterKey, MasterKeys, denoted, denoted_under}
use Rattle.key_tokens.specs.Fields.{token_of}
use Rattle.key_tokens.specs.Layout.{IsToken}
use Rattle.key_tokens.specs.TokenChecks.{token_checks}
use Rattle.key_tokens.specs.declared.key_token.Age.{Age}
use Rattle.key_tokens.specs.declared.key_token.Age.TheVariants.{Current, Old}
use Rattle.key_tokens.specs.declared.key_token.Asked.TheVariants as asked
use Rattle.key_tokens.specs.declared.key_token.Kind.TheVariants.{External}
use Rattle.key_tokens.specs.declared.key_token.Token.{Token}
use Rattle.key_tokens.proofs.DenotedKeys.{denotes_one}
use Rattle.key_tokens.proofs.Layouts.{none_from_token, token_is}
use Rattle.key_tokens.proofs.Written.{made-token}
use Rattle.key_transport.specs.Tokens.{external_token}
use Rattle.key_transport.proofs.PlaceLemmas.{stands_under}
use Rattle.master_registers.specs.Masters.{AreApart, IsMasters, Masters, blank_masters}
use Rattle.master_registers.specs.RegisterBody.{ReadsMasters, blank_body, registers_body}
use Rattle.multi_encipher.specs.Bundles.{transport_bundle}
use Rattle.multi_encipher.specs.Seals.{IsKey, seal}
use Rattle.multi_encipher.proofs.SealLaws.{one_to_one}
use Rattle.verb_rules.specs.Keys.{keys_of, master_key}
use Rattle.cca_machine.specs.Keys.{cell_with, key_of_label, what_at, what_in}
use Rattle.cca_machine.specs.State.{State, IsStoreOf}
use Rattle.cca_laws.specs.Disks.{StandFor}
use Rattle.cca_laws.proofs.ByteLaws.{Bytes, bytes_external}
use Rattle.cca_laws.proofs.DiskLaws.{module_distinct}
use Rattle.cca_laws.proofs.LabelLists.{name_of_entry}

-- ---- a key that the store holds

-- a key of the length that its control vector says, whose control vector is valid
pub record IsWhole (clear : ClearKey) : Type 0 where
  pub key : IsKey clear.vector clear.key
  pub vector : IsValid clear.vector

whole : (masters : MasterKeys) (bytes : List ℕ) (clear : ClearKey) (age : Age) → Denotes masters bytes clear age → IsWhole clear
whole masters bytes clear Current h = record { key = h.1.1.key; vector = h.1.1.token.vector }
whole masters bytes clear Old h = record { key = h.1.1.key; vector = h.1.1.token.vector }

-- 64 bytes that stand for the key
record HasBytes (masters : MasterKeys) (key : Denoted) : Type 0 where
  bytes : List ℕ
  are : AreBytes 64 bytes
  stands : denoted masters bytes ≡ Some key

of_entry : (masters : MasterKeys) (bytes : List ℕ) (e : Option Entry) (key : Denoted) → ReadsEntry masters bytes e → what_in e ≡ Some key → HasBytes masters key
unfolding kept
of_entry masters bytes None key reads is = cc is
of_entry masters bytes (Some e) key reads is =
    let what : ReadsWhat masters bytes e.label (Some key) e.ahead e.unused =
    subst (λ (o : Option Denoted). ReadsWhat masters bytes e.label o e.ahead e.unused) is reads.1 in
    record { bytes = what.token; are = what.are; stands = by_flag (slice_index what.token 6 == 0xc0) what.is_kept }
  where
    by_flag : {o : Option Denoted} (t : Bool) → (if t then o else None) ≡ Some key → o ≡ Some key
    by_flag true same = same
    by_flag false same = cc same

-- the key of an entry that is read is whole
pub entry_whole : (masters : MasterKeys) → HaveDistinctPatterns masters → (bytes : List ℕ) (e : Option Entry) (key : Denoted) → ReadsEntry masters bytes e → what_in e ≡ Some key
    → IsWhole key.clear
entry_whole masters apart bytes e key reads is =
    let has = of_entry masters bytes e key reads is in
    whole masters has.bytes key.clear key.age ((denotes_one masters [] has.bytes has.are apart).internal_back key.clear key.age has.stands)

module _ (s : State) (image : List ℕ) (stands : IsStoreOf s image) where
  at_cell : (cell : ℕ) (key : Denoted) → what_in (entry_at s.labels cell) ≡ Some key → HasBytes (keys_of s.registers) key
  at_cell cell key has = ⊎_elim
      (λ (within : cell < 1024). of_entry (keys_of s.registers) (body image cell) (entry_at s.labels cell) key (stands.reads cell within) has)
      (λ (past : 1024 ≤ cell).
      let none : entry_at s.labels cell ≡ None = get_or_past s.labels cell None (omega (arith, past, stands.size)) in
      let nothing : None ≡ Some key = sym (ap what_in none) ∙ has in cc)
      (cases_lt cell 1024)

  of_label : (label : List ℕ) (key : Denoted) → key_of_label s label ≡ Some key → HasBytes (keys_of s.registers) key
  of_label label key is = by_cell (cell_with s label) is
    where
      by_cell : (o : Option ℕ) → what_at s.labels o ≡ Some key → HasBytes (keys_of s.registers) key
      by_cell None has = cc has
      by_cell (Some cell) has = at_cell cell key has

-- the key of a label is whole
pub label_whole : (s : State) (in_module in_store label : List ℕ) (key : Denoted) → StandFor s in_module in_store → key_of_label s label ≡ Some key → IsWhole key.clear
label_whole s in_module in_store label key stand is =
    let has = of_label s in_store stand.store label key is in
    whole (keys_of s.registers) has.bytes key.clear key.age
    ((denotes_one (keys_of s.registers) [] has.bytes has.are (module_distinct s in_module stand.module_)).internal_back key.clear key.age has.stands)

-- ---- the current master key

register_full : (o : Option (List ℕ)) (master : MasterKey) → master_key o ≡ Some master → is_none o ≡ false
register_full None master is = cc is
register_full (Some bytes) master is = refl

-- old is full only where current is
current_too : (current former : Option (List ℕ)) → AreApart current former → is_none former ≡ false → is_none current ≡ false
current_too (Some bytes) former apart full = refl
current_too None None apart full = full
current_too None (Some old) apart full = absurd apart

module_apart : (m : Masters) (bytes : List ℕ) → ReadsMasters bytes m → AreApart m.current m.former
module_apart m bytes reads = ⊎_elim
    (λ (blank : (bytes ≡ blank_body) × (m ≡ blank_masters)). subst (λ (x : Masters). AreApart x.current x.former) (sym blank.1) tt)
    (λ (full : (bytes ≡ registers_body m) × IsMasters m). full.1.apart)
    reads

age_full : (m : Masters) (bytes : List ℕ) (clear : ClearKey) (age : Age) → AreApart m.current m.former → Denotes (keys_of m) bytes clear age → is_none m.current ≡ false
age_full m bytes clear Current apart h = register_full m.current h.0 h.1.0
age_full m bytes clear Old apart h = current_too m.current m.former apart (register_full m.former h.0 h.1.0)

-- where a label holds a key, the current register is full
pub label_full : (s : State) (in_module in_store label : List ℕ) (key : Denoted) → StandFor s in_module in_store → key_of_label s label ≡ Some key
    → is_none s.registers.current ≡ false
label_full s in_module in_store label key stand is =
    let has = of_label s in_store stand.store label key is in
    age_full s.registers has.bytes key.clear key.age (module_apart s.registers (body in_module 0) stand.module_.registers)
    ((denotes_one (keys_of s.registers) [] has.bytes has.are (module_distinct s in_module stand.module_)).internal_back key.clear key.age has.stands)

-- ---- a label that a cell has

-- it is well formed
pub label_well : (s : State) (in_store label : List ℕ) (cell : ℕ) → IsStoreOf s in_store → cell_with s label ≡ Some cell → IsLabel label
unfolding cell_of
label_well s in_store label cell stands held = by_entry (entry_at s.labels cell) refl
  where
    name : entry_label (entry_at s.labels cell) ≡ Some label
    name = sym (name_of_entry s.labels cell) ∙ held_at label (directory s.labels) cell held

    reads : (e : Option Entry) → entry_at s.labels cell ≡ e → e ≢ None → ReadsEntry (keys_of s.registers) (body in_store cell) e
    reads e is some = ⊎_elim
        (λ (within : cell < 1024). subst (ReadsEntry (keys_of s.registers) (body in_store cell)) is (stands.reads cell within))
        (λ (past : 1024 ≤ cell). absurd (some (sym is ∙ get_or_past s.labels cell None (omega (arith, past, stands.size)))))
        (cases_lt cell 1024)

    by_entry : (e : Option Entry) → entry_at s.labels cell ≡ e → IsLabel label
    by_entry None is = let nothing : None ≡ Some label = sym (ap entry_label is) ∙ name in cc
    by_entry (Some e) is = subst IsLabel (same_Some e.label label (sym (ap entry_label is) ∙ name)) (reads (Some e) is (λ no. cc no)).0

-- ---- its external token

module _ (transport : List ℕ) (clear : ClearKey) (is : IsWhole clear) where
  abbrev token_out : Token
  token_out = record { kind = External; pattern = replicate 8 0; sealed = seal (transport_bundle transport) clear.vector clear.key; vector = clear.vector }

  abbrev bytes_out : List ℕ
  bytes_out = external_token transport clear

  out_token : IsToken bytes_out token_out
  unfolding external_token
  out_token =
      let halves = (one_to_one (transport_bundle transport) clear.vector).sealed clear.key is.key in
      made-token token_out refl halves.left.size halves.right.size is.vector (IsZero-replicate 8) halves.single

  pub out_long : length (external_token transport clear) ≡ 64
  out_long = out_token.whole

  out_bytes : Bytes (external_token transport clear)
  out_bytes = bytes_external clear is.vector.bytes transport

  pub out_fits : IsBytes (external_token transport clear)
  out_fits k = ⊎_elim
      (λ (within : k < 64). out_bytes k 0 (omega (arith, within, out_long)))
      (λ (past : 64 ≤ k). let zero : get_or bytes_out k 0 ≡ 0 = get_or_past bytes_out k 0 (omega (arith, past, out_long)) in omega arith)
      (cases_lt k 64)

  -- it stands for the key
  pub out_denotes : denoted_under transport (external_token transport clear) ≡ Some clear
  out_denotes = stands_under transport bytes_out clear (record { size = out_long; each = out_bytes }) is.key out_token

  -- it breaks no rule of an external token
  pub out_passes : first_failing (token_checks asked.External (external_token transport clear)) ≡ None
  out_passes = none_from_token asked.External bytes_out out_long out_fits token_out out_token refl

  -- and has these fields
  pub out_kind : (token_of (external_token transport clear)).kind ≡ External
  out_kind = ap (λ (t : Token). t.kind) (token_is bytes_out out_long token_out out_token)

  pub out_vector : (token_of (external_token transport clear)).vector ≡ clear.vector
  out_vector = ap (λ (t : Token). t.vector) (token_is bytes_out out_long token_out out_token)
