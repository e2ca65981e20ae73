-- The keys that a request is given: each is whole, with the length that its control vector says, and its control vector is
-- valid.
use Rattle.std.proofs.Common.{◌≡◌, ⊎_elim, ℕ, ◌/◌, ◌%◌, ◌<◌, ◌≤◌, Bool, true, false, List, [], ◌∷◌, length, take, drop, Option, None, Some, refl, sym, ap, subst, ◌∙◌, codes, arith}
use Rattle.std.specs.Prelude.{slice_index, if◌then◌else◌, ◌||◌, ◌==◌}
use Rattle.std.specs.List.{list_all}
use Rattle.std.specs.Result.{result_unwrap_or}
use Rattle.std.specs.Str.{bytes_eq}
use Rattle.std.proofs.lemmas.Bool.{and_parts, cases_lt}
use Rattle.std.proofs.lemmas.Bool.Decides.{Decides-eqb}
use Rattle.std.proofs.lemmas.List.{get_or_past}
use Rattle.std.proofs.lemmas.List.Sums.{AllPass-from_list_all}
use Rattle.std.proofs.lemmas.Option.{same_Some}
use Rattle.hex.specs.Hex.{is_hex_digit}
use Rattle.hex.proofs.HexLemmas.{decode_of-digits, decode_of-ok}
use Rattle.device_cells.specs.Cells.{body}
use Rattle.key_cells.specs.Bytes.{AreBytes}
use Rattle.key_cells.proofs.ByteLemmas.{are_bytes}
use Rattle.record_bodies.specs.Entries.{Entry}
use Rattle.record_bodies.specs.RecordBody.{ReadsEntry, ReadsWhat, kept}
use Rattle.record_bodies.specs.StoreStands.{entry_at}
use Rattle.key_tokens.specs.Denotes.{ClearKey, Denoted, Denotes, HaveDistinctPatterns, MasterKey, MasterKeys, clear_of, denoted, denoted_or, denoted_under, is_token}
use Rattle.key_tokens.specs.Fields.{pattern_of_token}
use Rattle.key_tokens.specs.declared.key_token.Age.{Age}
use Rattle.key_tokens.specs.declared.key_token.Age.TheVariants.{Current, Old}
use Rattle.key_tokens.specs.declared.key_token.Asked.TheVariants as asked
use Rattle.key_tokens.proofs.DenotedKeys.{denotes_one}
use Rattle.verb_rules.specs.Keys.{keys_of}
use Rattle.verb_script.specs.Grammar.{AreValues, FieldForm, IsValue, key_text, part_text, value_among}
use Rattle.verb_script.specs.Named.{is_named, is_token_text}
use Rattle.verb_script.specs.Values.{hex_value, is_hex}
use Rattle.cca_machine.specs.Keys.{cell_with, key_bytes, key_in_text, key_named, key_of_label, what_at, what_in}
use Rattle.cca_machine.specs.State.{State, IsStoreOf}
use Rattle.cca_laws.proofs.MoveTokens.{IsWhole}

-- ---- the value of a field

-- the first field of this name
abbrev pub field_named : List FieldForm → List ℕ → Option FieldForm
field_named [] name = None
field_named (f ∷ fs) name = if bytes_eq f.name name then Some f else field_named fs name

pub value_is : (fs : List FieldForm) (vs : List (List ℕ)) (name : List ℕ) (g : FieldForm) → field_named fs name ≡ Some g → AreValues fs vs
    → IsValue g.values (value_among fs vs name)
value_is [] [] name g is are = cc is
value_is [] (v ∷ vs) name g is are = cc is
value_is (f ∷ fs) [] name g is are = absurd are
value_is (f ∷ fs) (v ∷ vs) name g is are = by_name (bytes_eq f.name name) is (λ later. value_is fs vs name g later are.1)
  where
    by_name : (t : Bool) → (if t then Some f else field_named fs name) ≡ Some g → (field_named fs name ≡ Some g → IsValue g.values (value_among fs vs name))
        → IsValue g.values (if t then v else value_among fs vs name)
    by_name true here others = subst (λ (h : FieldForm). IsValue h.values v) (same_Some f g here) are.0
    by_name false later others = others later

-- ---- the bytes of digits

pub digits_spell : (digits : List ℕ) (count : ℕ) → is_hex count digits ≡ true → count % 2 ≡ 0 → AreBytes (count / 2) (hex_value digits)
digits_spell digits count is even =
    let both = and_parts (length digits == count) (list_all is_hex_digit digits) is in
    let long : length digits ≡ count = (Decides-eqb (length digits) count).0 both.0 in
    let bytes = decode_of-digits digits (ap (λ n. n % 2) long ∙ even) (AllPass-from_list_all is_hex_digit digits both.1) in
    let ok = decode_of-ok digits bytes.0 bytes.1 in
    let size : length bytes.0 ≡ count / 2 = omega (arith, ok.2, long) in
    subst (AreBytes (count / 2)) (sym (ap (λ r. result_unwrap_or r []) bytes.1))
    (record { size = size; each = are_bytes bytes.0 ok.3 })

-- a part of a key: 8 or 16 bytes
pub part_spells : (digits : List ℕ) → IsValue part_text digits → AreBytes (length digits / 2) (hex_value digits)
part_spells digits is = by_first (is_hex 16 digits) refl
  where
    by_size : (count : ℕ) → is_hex count digits ≡ true → count % 2 ≡ 0 → AreBytes (length digits / 2) (hex_value digits)
    by_size count hex even =
        let both = and_parts (length digits == count) (list_all is_hex_digit digits) hex in
        let long : length digits ≡ count = (Decides-eqb (length digits) count).0 both.0 in
        subst (λ n. AreBytes (n / 2) (hex_value digits)) (sym long) (digits_spell digits count hex even)

    or_false : (b : Bool) → (b || false) ≡ true → b ≡ true
    or_false true same = refl
    or_false false same = cc same

    by_first : (b : Bool) → is_hex 16 digits ≡ b → AreBytes (length digits / 2) (hex_value digits)
    by_first true first = by_size 16 first refl
    by_first false first =
        let rest : (false || (is_hex 32 digits || false)) ≡ true = sym (ap (λ b. b || (is_hex 32 digits || false)) first) ∙ is in
        by_size 32 (or_false (is_hex 32 digits) rest) refl

-- ---- keys of tokens

-- the master key that an internal token is under
record IsUnderMaster (bytes : List ℕ) (key : Denoted) : Type 0 where
  master : MasterKey
  pattern : bytes_eq (pattern_of_token bytes) master.pattern ≡ true
  clear : clear_of master.key bytes ≡ key.clear

module _ (bytes : List ℕ) (key : Denoted) where
  by_register : (register : Option MasterKey) (age : Age) (other : Option Denoted) → (other ≡ Some key → IsUnderMaster bytes key)
      → denoted_or register age bytes other ≡ Some key → IsUnderMaster bytes key
  by_register None age other otherwise is = otherwise is
  by_register (Some master) age other otherwise is = by_test (bytes_eq (pattern_of_token bytes) master.pattern) refl is
    where
      by_test : (t : Bool) → bytes_eq (pattern_of_token bytes) master.pattern ≡ t
          → (if t then Some (record { clear = clear_of master.key bytes; age = age }) else other) ≡ Some key → IsUnderMaster bytes key
      by_test true same here =
          record { master = master; pattern = same; clear = ap (λ (d : Denoted). d.clear) (same_Some (record { clear = clear_of master.key bytes; age = age }) key here) }
      by_test false same there = otherwise there

  none_other : None ≡ Some key → IsUnderMaster bytes key
  none_other is = cc

  if_token : (t : Bool) (o : Option Denoted) → (if t then o else None) ≡ Some key → (t ≡ true) × (o ≡ Some key)
  if_token true o is = (refl, is)
  if_token false o is = cc is

  pub token_whole : (masters : MasterKeys) → AreBytes 64 bytes → denoted masters bytes ≡ Some key → IsWhole key.clear
  unfolding denoted
  token_whole masters are is =
      let read = if_token (is_token asked.Internal bytes) (denoted_or masters.current Current bytes (denoted_or masters.former Old bytes None)) is in
      let under = by_register masters.current Current (denoted_or masters.former Old bytes None) (by_register masters.former Old None none_other) read.1 in
      let alone : MasterKeys = record { current = Some under.master; former = None; coming = None } in
      let apart : HaveDistinctPatterns alone = λ current former is_current is_former same. cc is_former in
      let stands : denoted alone bytes ≡ Some (record { clear = clear_of under.master.key bytes; age = Current }) =
      ap (λ t. if t then denoted_or (Some under.master) Current bytes None else None) read.0
      ∙ ap (λ t. if t then Some (record { clear = clear_of under.master.key bytes; age = Current }) else None) under.pattern in
      let denotes : Denotes alone bytes (clear_of under.master.key bytes) Current =
      (denotes_one alone [] bytes are apart).internal_back (clear_of under.master.key bytes) Current stands in
      subst IsWhole under.clear (record { key = denotes.1.1.key; vector = denotes.1.1.token.vector })

pub external_whole : (transport bytes : List ℕ) (clear : ClearKey) → AreBytes 64 bytes → denoted_under transport bytes ≡ Some clear → IsWhole clear
external_whole transport bytes clear are is =
    let denotes =
    (denotes_one (record { current = None; former = None; coming = None }) transport bytes are (λ current former is_current is_former same. cc is_current)).external_back clear is in
    record { key = denotes.key; vector = denotes.token.vector }

-- ---- keys of labels

-- 64 bytes that stand for the key
record HasBytes (masters : MasterKeys) (key : Denoted) : Type 0 where
  bytes : List ℕ
  are : AreBytes 64 bytes
  stands : denoted masters bytes ≡ Some key

of_entry : (masters : MasterKeys) (bytes : List ℕ) (e : Option Entry) (key : Denoted) → ReadsEntry masters bytes e → what_in e ≡ Some key → HasBytes masters key
unfolding kept
of_entry masters bytes None key reads is = cc is
of_entry masters bytes (Some e) key reads is =
    let what : ReadsWhat masters bytes e.label (Some key) e.ahead e.unused =
    subst (λ (o : Option Denoted). ReadsWhat masters bytes e.label o e.ahead e.unused) is reads.1 in
    record { bytes = what.token; are = what.are; stands = by_flag (slice_index what.token 6 == 0xc0) what.is_kept }
  where
    by_flag : {o : Option Denoted} (t : Bool) → (if t then o else None) ≡ Some key → o ≡ Some key
    by_flag true same = same
    by_flag false same = cc same

module _ (s : State) (image : List ℕ) (stands : IsStoreOf s image) where
  at_cell : (cell : ℕ) (key : Denoted) → what_in (entry_at s.labels cell) ≡ Some key → HasBytes (keys_of s.registers) key
  at_cell cell key has = ⊎_elim
      (λ (within : cell < 1024). of_entry (keys_of s.registers) (body image cell) (entry_at s.labels cell) key (stands.reads cell within) has)
      (λ (past : 1024 ≤ cell).
      let none : entry_at s.labels cell ≡ None = get_or_past s.labels cell None (omega (arith, past, stands.size)) in
      let nothing : None ≡ Some key = sym (ap what_in none) ∙ has in cc)
      (cases_lt cell 1024)

  pub label_is_whole : (label : List ℕ) (key : Denoted) → key_of_label s label ≡ Some key → IsWhole key.clear
  label_is_whole label key is = by_cell (cell_with s label) is
    where
      by_cell : (o : Option ℕ) → what_at s.labels o ≡ Some key → IsWhole key.clear
      by_cell None has = cc has
      by_cell (Some cell) has = let h = at_cell cell key has in token_whole h.bytes key (keys_of s.registers) h.are h.stands

  -- ---- keys of a text

  pub text_is_whole : (text : List ℕ) (key : Denoted) → IsValue key_text text → key_in_text s text ≡ Some key → IsWhole key.clear
  text_is_whole text key value is = by_named (is_named text) value is
    where
      or_false : (b : Bool) → (b || false) ≡ true → b ≡ true
      or_false true same = refl
      or_false false same = cc same

      by_named : (t : Bool) → (is_token_text text || t) ≡ true → key_named s (if t then Some (drop 2 text) else None) text ≡ Some key → IsWhole key.clear
      by_named true accepted named = label_is_whole (drop 2 text) key named
      by_named false accepted given =
          let token = and_parts (bytes_eq (take 2 text) (codes "T:")) (is_hex 128 (drop 2 text)) (or_false (is_token_text text) accepted) in
          token_whole (key_bytes text) key (keys_of s.registers) (digits_spell (drop 2 text) 128 token.1 refl) given
