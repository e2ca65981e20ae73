-- A key that is brought in by parts, from request to request.
use Rattle.std.proofs.Common.{◌≡◌, ◌≢◌, ℕ, zero, suc, ◌/◌, ◌%◌, ◌==◌, Bool, true, false, not, List, [], ◌∷◌, ◌++◌, length, map, set, Option, None, Some, IsTrue, refl, sym, ap, subst, ◌∙◌, codes, arith}
use Rattle.std.specs.Prelude.{All, fold, is_none, ◌&&◌, ◌||◌, if◌then◌else◌}
use Rattle.std.specs.List.{list_all}
use Rattle.std.specs.Result.{result_unwrap_or}
use Rattle.std.proofs.lemmas.Bool.{and_parts}
use Rattle.std.proofs.lemmas.Bool.Decides.{Decides-eqb}
use Rattle.std.proofs.lemmas.List.{map-set, set-get_or}
use Rattle.std.proofs.lemmas.List.Elements.{All-cons, All-head, All-nil, All-tail}
use Rattle.std.proofs.lemmas.List.Sums.{AllPass-from_list_all}
use Rattle.hex.specs.Hex.{is_hex_digit}
use Rattle.hex.proofs.HexLemmas.{decode_of-digits, decode_of-ok}
use Rattle.key_cells.specs.Bytes.{AreBytes}
use Rattle.cca_roles.specs.Directory.{has_name}
use Rattle.key_cells.proofs.ByteLemmas.{are_bytes}
use Rattle.cca_roles.proofs.DirectoryLaws.{held_at}
use Rattle.cca_vectors.specs.Checks.{check, first_failing}
use Rattle.cca_vectors.specs.DefaultVectors.{default_vector}
use Rattle.cca_vectors.specs.KeyTypes.{type_name}
use Rattle.cca_vectors.specs.PartVectors.{as_part}
use Rattle.cca_vectors.specs.Vectors.{IsValid, is_part_of, length_of}
use Rattle.cca_vectors.specs.declared.key_type.KeyType.{KeyType}
use Rattle.cca_vectors.proofs.DefaultLemmas.{default_valid}
use Rattle.cca_vectors.proofs.PartLemmas.{part_length}
use Rattle.cca_vectors.proofs.TypeLemmas.{names_type}
use Rattle.key_parts.specs.Parts.{combined_key, first_key, xor_all}
use Rattle.key_parts.proofs.PartLemmas.{after_last, before_last}
use Rattle.record_bodies.specs.LabelChanges.{with_what, written}
use Rattle.record_bodies.specs.Directory.{cell_of}
use Rattle.record_bodies.specs.Entries.{Entry, directory, entry_label}
use Rattle.record_bodies.specs.Labels.{is_label}
use Rattle.record_bodies.specs.StoreStands.{entry_at}
use Rattle.key_tokens.specs.Denotes.{ClearKey, Denoted}
use Rattle.key_transport.specs.Generated.{HasLength, vector_for}
use Rattle.key_transport.specs.Tokens.{as_current}
use Rattle.key_transport.proofs.GeneratedLemmas.{length-vector_for}
use Rattle.verb_rules.specs.KeyChecks.{use_checks, vector_use_checks}
use Rattle.verb_rules.specs.declared.needs.Need.{Need}
use Rattle.verb_script.specs.Grammar.{Request, accepts, part_text, to_text}
use Rattle.verb_script.specs.Named.{is_named, label_named}
use Rattle.verb_script.specs.Values.{hex_value, is_hex}
use Rattle.cca_machine.specs.Act.{delivered_with, or_act, performed, state_after, written_in}
use Rattle.cca_machine.specs.Choices.{is_last_part, or_data, type_in}
use Rattle.cca_machine.specs.Keys.{cell_with, key_named, key_of_label, key_of_request, or_no_key, what_at, what_in}
use Rattle.cca_machine.specs.Operands.{Operand}
use Rattle.cca_machine.specs.State.{State}
use Rattle.cca_machine.specs.Verdict.{Refusal, first_refusal, held_checks, key_questions, operand_checks, operand_questions, operands_verdict, or_refused, or_then, refusal, target_checks, verdict, whole_verb_verdict}
use Rattle.cca_machine.specs.declared.asking.Ask.{Ask}
use Rattle.cca_laws.specs.KeyInParts.{AreCarriedOut, AsksWhole, BroughtIn, Custodian, IsPermitted, IsReached, SameRecord, by_label, bytes_of, first_request, further_request, parts_of, size_of}
use Rattle.cca_laws.proofs.LabelLists.{Alike, Same, alike_set, entries_compare, key_is, label_kept, name_of_entry, place_other}
use Rattle.cca_laws.proofs.LineCases.{after, permitted, refused_none}
use Rattle.cca_laws.proofs.UseLaws.{not_false, check_passes}
use Rattle.key_parts.proofs.TypeLemmas.{where_had}

-- ---- a key that is written into a place with a label

with_twice : (c d : Denoted) (e : Option Entry) → with_what d (with_what c e) ≡ with_what d e
with_twice c d None = refl
with_twice c d (Some e) = refl

written_twice : (es : List (Option Entry)) (cell : ℕ) (c d : Denoted) → written cell d (written cell c es) ≡ written cell d es
written_twice [] cell c d = refl
written_twice (e ∷ es) zero c d = ap (λ x. x ∷ es) (with_twice c d e)
written_twice (e ∷ es) (suc n) c d = ap (λ xs. e ∷ xs) (written_twice es n c d)

written_found : (es : List (Option Entry)) (cell : ℕ) (d : Denoted) (label : List ℕ) → entry_label (entry_at es cell) ≡ Some label
    → what_in (entry_at (written cell d es) cell) ≡ Some d
written_found [] cell d label is = cc is
written_found (None ∷ es) zero d label is = cc is
written_found (Some e ∷ es) zero d label is = refl
written_found (e ∷ es) (suc n) d label is = written_found es n d label is

directory_written : (es : List (Option Entry)) (cell : ℕ) (d : Denoted) → directory (written cell d es) ≡ directory es
directory_written es cell d =
    map-set entry_label es cell (with_what d (entry_at es cell))
    ∙ (ap (set (directory es) cell) (label_kept d (entry_at es cell) ∙ sym (name_of_entry es cell)) ∙ set-get_or (directory es) cell None)

-- the state with this key in a cell
abbrev pub with_key : State → ℕ → Denoted → State
with_key s cell d = record s { labels = written cell d s.labels }

module _ (s : State) (label : List ℕ) (cell : ℕ) (held : cell_with s label ≡ Some cell) (d : Denoted) where
  pub cells_stay : (other : List ℕ) → cell_with (with_key s cell d) other ≡ cell_with s other
  cells_stay other = ap (cell_of other) (directory_written s.labels cell d)

  pub key_found : key_of_label (with_key s cell d) label ≡ Some d
  unfolding cell_of
  key_found =
      ap (what_at (written cell d s.labels)) (cells_stay label ∙ held)
      ∙ written_found s.labels cell d label (sym (name_of_entry s.labels cell) ∙ held_at label (directory s.labels) cell held)

  pub other_stays : (other : List ℕ) → other ≢ label → key_of_label (with_key s cell d) other ≡ key_of_label s other
  unfolding cell_of
  other_stays other apart =
      let before : has_name other (entry_label (entry_at s.labels cell)) ≡ false = place_other other label s.labels cell (λ same. apart (sym same)) held in
      let alike : Alike other Same s.labels (written cell d s.labels) =
      alike_set other s.labels cell (with_what d (entry_at s.labels cell)) before (ap (has_name other) (label_kept d (entry_at s.labels cell)) ∙ before) in
      key_is other (written cell d s.labels)
      ∙ (ap what_in (sym (entries_compare other Same refl s.labels (written cell d s.labels) alike)) ∙ sym (key_is other s.labels))

-- ---- what has passed

some_cell : (o : Option ℕ) → is_none o ≡ false → (cell : ℕ) × (o ≡ Some cell)
some_cell None is = cc is
some_cell (Some cell) is = (cell, refl)

-- a label that a record has
pub record Stands (s : State) (label : List ℕ) : Type 0 where
  pub well : is_label label ≡ true
  pub cell : ℕ
  pub held : cell_with s label ≡ Some cell

pub stands : (s : State) (label : List ℕ) → first_failing (held_checks s label) ≡ None → Stands s label
stands s label is =
    let well = check_passes 6 (not (is_label label)) (check 7 (is_none (cell_with s label)) ∷ []) is in
    let some = some_cell (cell_with s label) (check_passes 7 (is_none (cell_with s label)) [] well.1).0 in
    record { well = not_false (is_label label) well.0; cell = some.0; held = some.1 }

named : (label : List ℕ) → IsTrue (accepts to_text (by_label label)) → label_named (by_label label) ≡ Some label
named label is = let names : is_named (by_label label) ≡ true = is in ap (λ t. if t then Some label else None) names

-- ---- the digits of a part

pub spelled : (digits : List ℕ) (count : ℕ) → is_hex count digits ≡ true → count % 2 ≡ 0 → AreBytes (length digits / 2) (hex_value digits)
spelled digits count is even =
    let both = and_parts (length digits == count) (list_all is_hex_digit digits) is in
    let long : length digits ≡ count = (Decides-eqb (length digits) count).0 both.0 in
    let bytes = decode_of-digits digits (ap (λ n. n % 2) long ∙ even) (AllPass-from_list_all is_hex_digit digits both.1) in
    let ok = decode_of-ok digits bytes.0 bytes.1 in
    let size : length bytes.0 ≡ length digits / 2 = omega (arith, ok.2) in
    subst (AreBytes (length digits / 2)) (sym (ap (λ r. result_unwrap_or r []) bytes.1))
    (record { size = size; each = are_bytes bytes.0 ok.3 })

pub part_bytes : (digits : List ℕ) → IsTrue (accepts part_text digits) → AreBytes (length digits / 2) (hex_value digits)
part_bytes digits is = by_first (is_hex 16 digits) refl
  where
    by_second : (b : Bool) → (b || false) ≡ true → b ≡ true
    by_second true same = refl
    by_second false same = cc same

    by_first : (b : Bool) → is_hex 16 digits ≡ b → AreBytes (length digits / 2) (hex_value digits)
    by_first true first = spelled digits 16 first refl
    by_first false first =
        let rest : (false || (is_hex 32 digits || false)) ≡ true = sym (ap (λ b. b || (is_hex 32 digits || false)) first) ∙ is in
        spelled digits 32 (by_second (is_hex 32 digits) rest) refl

-- ---- one request

pub done : (s : State) (r : Request) → verdict s [] r ≡ None → (performed s [] r).state ≡ after s [] r
unfolding performed
done s r is = ap (λ (v : Option Refusal). (or_act v s [] r).state) is

delivers : (s : State) (field text label : List ℕ) (cell : ℕ) (key : Denoted) → label_named text ≡ Some label → cell_with s label ≡ Some cell
    → state_after s (delivered_with s field (label_named text) key []) ≡ with_key s cell key
delivers s field text label cell key names held =
    ap (λ (o : Option (List ℕ)). state_after s (delivered_with s field o key [])) names ∙ ap (λ (c : Option ℕ). record s { labels = written_in c key s.labels }) held

pub type_is : (kind : KeyType) → type_in (type_name kind) ≡ kind
type_is kind = ap or_data ((names_type (type_name kind) kind).1 refl)

-- what FIRST leaves
record IsBegun (s : State) (label : List ℕ) (kind : KeyType) (c : Custodian) : Type 0 where
  label_ : Stands s label
  names : label_named (by_label label) ≡ Some label
  has : HasLength kind (length (bytes_of c))
  bytes : AreBytes (length (bytes_of c)) (bytes_of c)
  now : (performed s [] (first_request label kind c)).state ≡ with_key s label_.cell (as_current (first_key kind (bytes_of c)))

begun : (s : State) (label : List ℕ) (kind : KeyType) (c : Custodian) → IsPermitted s (first_request label kind c) → IsBegun s label kind c
begun s label kind c is =
    let r : Request = first_request label kind c in
    let p = permitted s [] r is.permitted in
    let names : label_named (by_label label) ≡ Some label = named label is.spelled.1.1.1.1.0 in
    let ops = (refused_none (first_failing (target_checks s (label_named (by_label label)))) (codes "to") _ p.operands).0 in
    let there : Stands s label = stands s label (sym (ap (λ (o : Option (List ℕ)). first_failing (target_checks s o)) names) ∙ ops) in
    let bytes : AreBytes (length c.part / 2) (bytes_of c) = part_bytes c.part is.spelled.1.1.1.0 in
    let verb : HasLength (type_in (type_name kind)) (length c.part / 2) = (refused_none _ (codes "part") None p.verb).0 in
    record {
      label_ = there;
      names = names;
      has = subst (HasLength kind) (sym bytes.size) (subst (λ (k : KeyType). HasLength k (length c.part / 2)) (type_is kind) verb);
      bytes = subst (λ n. AreBytes n (bytes_of c)) (sym bytes.size) bytes;
      now = done s r is.permitted
          ∙ (delivers s (codes "token") (by_label label) label there.cell (as_current (first_key (type_in (type_name kind)) (bytes_of c))) names there.held
          ∙ ap (λ (k : KeyType). with_key s there.cell (as_current (first_key k (bytes_of c)))) (type_is kind));
    }

module _ (s : State) (label : List ℕ) (cell : ℕ) (held : cell_with s label ≡ Some cell) (names : label_named (by_label label) ≡ Some label) (size : ℕ) where
  -- what MIDDLE and LAST leave
  record IsCombined (t : State) (rule : List ℕ) (clear : ClearKey) (c : Custodian) : Type 0 where
    bytes : AreBytes size (bytes_of c)
    now : (performed t [] (further_request label rule c)).state ≡ with_key s cell (as_current (combined_key (is_last_part rule) clear (bytes_of c)))

  combined : (rule : List ℕ) (clear : ClearKey) (c : Custodian) → length_of clear.vector ≡ size
      → IsPermitted (with_key s cell (as_current clear)) (further_request label rule c) → IsCombined (with_key s cell (as_current clear)) rule clear c
  combined rule clear c long is =
      let t : State = with_key s cell (as_current clear) in
      let r : Request = further_request label rule c in
      let p = permitted t [] r is.permitted in
      let found : key_of_request t r ≡ clear =
      ap (λ (o : Option (List ℕ)). (or_no_key (key_named t o (by_label label))).clear) names ∙ ap (λ (k : Option Denoted). (or_no_key k).clear) (key_found s label cell held (as_current clear)) in
      let verb = (refused_none (first_failing (check 32 (not (length c.part / 2 == length_of (key_of_request t r).vector)) ∷ [])) (codes "part") _ p.verb).0 in
      let same = (Decides-eqb (length c.part / 2) (length_of (key_of_request t r).vector)).0 (not_false _ (check_passes 32 _ [] verb).0) in
      let sized : length c.part / 2 ≡ size = same ∙ (ap (λ (k : ClearKey). length_of k.vector) found ∙ long) in
      record {
        bytes = subst (λ n. AreBytes n (bytes_of c)) sized (part_bytes c.part is.spelled.1.1.1.0);
        now = done t r is.permitted
            ∙ (delivers t (codes "token") (by_label label) label cell (as_current (combined_key (is_last_part rule) (key_of_request t r) (bytes_of c))) names
            (cells_stay s label cell held (as_current clear) label ∙ held)
            ∙ (ap (λ (k : ClearKey). with_key t cell (as_current (combined_key (is_last_part rule) k (bytes_of c)))) found
            ∙ ap (λ (ls : List (Option Entry)). record s { labels = ls }) (written_twice s.labels cell (as_current clear) (as_current (combined_key (is_last_part rule) clear (bytes_of c))))));
      }

  -- MIDDLE for each of the parts
  all_combined : (t now : State) (clear : ClearKey) (cs : List Custodian) → t ≡ with_key s cell (as_current clear) → length_of clear.vector ≡ size
      → AreCarriedOut t (map (further_request label (codes "MIDDLE")) cs) now
      → (now ≡ with_key s cell (as_current (fold (combined_key false) clear (map bytes_of cs)))) × All (AreBytes size) (map bytes_of cs)
  all_combined t now clear [] is long out = (out ∙ is, All-nil (AreBytes size))
  all_combined t now clear (c ∷ cs) is long out =
      let one = combined (codes "MIDDLE") clear c long (subst (λ (x : State). IsPermitted x (further_request label (codes "MIDDLE") c)) is out.0) in
      let next : (performed t [] (further_request label (codes "MIDDLE") c)).state ≡ with_key s cell (as_current (combined_key false clear (bytes_of c))) =
      ap (λ (x : State). (performed x [] (further_request label (codes "MIDDLE") c)).state) is ∙ one.now in
      let rest = all_combined (performed t [] (further_request label (codes "MIDDLE") c)).state now (combined_key false clear (bytes_of c)) cs next long out.1 in
      (rest.0, All-cons (AreBytes size) (bytes_of c) (map bytes_of cs) one.bytes rest.1)

-- ---- all of them

-- the vector of a part has its type's length
pub first_length : (kind : KeyType) (size : ℕ) → HasLength kind size → length_of (as_part (vector_for kind size)) ≡ size
first_length kind size has = part_length (vector_for kind size) (where_had IsValid (default_vector kind size) has (default_valid kind size)) ∙ length-vector_for kind size has

pub folded_vector : (clear : ClearKey) (parts : List (List ℕ)) → (fold (combined_key false) clear parts).vector ≡ clear.vector
folded_vector clear [] = refl
folded_vector clear (part ∷ parts) = folded_vector (combined_key false clear part) parts

all-append : (P : List ℕ → Type 0) (xs : List (List ℕ)) (y : List ℕ) → All P xs → P y → All P (xs ++ y ∷ [])
all-append P [] y xs_all y_is = All-cons P y [] y_is (All-nil P)
all-append P (x ∷ xs) y xs_all y_is = All-cons P x (xs ++ y ∷ []) (All-head P x xs xs_all) (all-append P xs y (All-tail P x xs xs_all) y_is)

-- the key that the parts make
abbrev made_of : (s : State) (label : List ℕ) (kind : KeyType) → BroughtIn label kind s → Denoted
made_of s label kind b = as_current (record { key = xor_all (size_of label kind s b) (parts_of label kind s b); vector = vector_for kind (size_of label kind s b) })

-- what the parts leave before the last one, and with it
record IsMade (s : State) (label : List ℕ) (kind : KeyType) (b : BroughtIn label kind s) : Type 0 where
  label_ : Stands s label
  names : label_named (by_label label) ≡ Some label
  has : HasLength kind (size_of label kind s b)
  bytes : All (AreBytes (size_of label kind s b)) (parts_of label kind s b)
  part : ClearKey
  is_part : is_part_of part.vector ≡ true
  before : b.before_last ≡ with_key s label_.cell (as_current part)
  now : b.now ≡ with_key s label_.cell (made_of s label kind b)

made : (s : State) (label : List ℕ) (kind : KeyType) (b : BroughtIn label kind s) → IsMade s label kind b
made s label kind b =
    let size : ℕ = size_of label kind s b in
    let one = begun s label kind b.first b.begins.0 in
    let cell : ℕ = one.label_.cell in
    let first : ClearKey = first_key kind (bytes_of b.first) in
    let long : length_of first.vector ≡ size = first_length kind size one.has in
    let some = all_combined s label cell one.label_.held one.names size (performed s [] (first_request label kind b.first)).state b.before_last first b.middle one.now long b.begins.1 in
    let part : ClearKey = fold (combined_key false) first (map bytes_of b.middle) in
    let last = combined s label cell one.label_.held one.names size (codes "LAST") part b.last (ap length_of (folded_vector first (map bytes_of b.middle)) ∙ long)
    (subst (λ (x : State). IsPermitted x (further_request label (codes "LAST") b.last)) some.0 b.ends.0) in
    let others : All (AreBytes size) (map bytes_of b.middle ++ bytes_of b.last ∷ []) = all-append (AreBytes size) (map bytes_of b.middle) (bytes_of b.last) some.1 last.bytes in
    record {
      label_ = one.label_;
      names = one.names;
      has = one.has;
      bytes = All-cons (AreBytes size) (bytes_of b.first) (map bytes_of b.middle ++ bytes_of b.last ∷ []) one.bytes others;
      part = part;
      is_part = before_last kind size (bytes_of b.first) (map bytes_of b.middle) one.has one.bytes;
      before = some.0;
      now = b.ends.1
          ∙ (ap (λ (x : State). (performed x [] (further_request label (codes "LAST") b.last)).state) some.0
          ∙ (last.now ∙ ap (λ (k : ClearKey). with_key s cell (as_current k))
          (after_last kind size (bytes_of b.first) (map bytes_of b.middle) one.has one.bytes (bytes_of b.last) others)));
    }

-- ---- rule 17

module _ (t : State) (label : List ℕ) (well : is_label label ≡ true) (cell : ℕ) (held : cell_with t label ≡ Some cell) (key : Denoted) (found : key_of_label t label ≡ Some key)
    (is_part : is_part_of key.clear.vector ≡ true) (need : Need) (whole : need.parts ≡ false) where
  -- the rules before it pass
  pub label_refused : first_failing (key_questions t need (Some label) (by_label label)) ≡ Some 17
  label_refused =
      ap (λ (a : Bool). first_failing (check 6 (not a) ∷ check 7 (is_none (cell_with t label)) ∷ check 8 (is_none (key_of_label t label))
      ∷ use_checks need (or_no_key (key_of_label t label)).clear.vector)) well
      ∙ (ap (λ (a : Option ℕ). first_failing (check 7 (is_none a) ∷ check 8 (is_none (key_of_label t label)) ∷ use_checks need (or_no_key (key_of_label t label)).clear.vector)) held
      ∙ (ap (λ (a : Option Denoted). first_failing (check 8 (is_none a) ∷ use_checks need (or_no_key a).clear.vector)) found
      ∙ (ap (λ (a : Bool). first_failing (check 17 (not a && is_part_of key.clear.vector) ∷ vector_use_checks need key.clear.vector)) whole
      ∙ ap (λ (a : Bool). first_failing (check 17 a ∷ vector_use_checks need key.clear.vector)) is_part)))

reached : (t : State) (before after_ : List Operand) (o : Operand) (rule : ℕ) → first_refusal (operand_questions t before) ≡ None
    → first_failing (operand_checks t o.text o.ask) ≡ Some rule → first_refusal (operand_questions t (before ++ o ∷ after_)) ≡ Some (refusal rule o.name)
reached t [] after_ o rule earlier fails = ap (λ (f : Option ℕ). or_refused f o.name (first_refusal (operand_questions t after_))) fails
reached t (p ∷ ps) after_ o rule earlier fails =
    let both = refused_none (first_failing (operand_checks t p.text p.ask)) p.name (first_refusal (operand_questions t ps)) earlier in
    ap (λ (f : Option ℕ). or_refused f p.name (first_refusal (operand_questions t (ps ++ o ∷ after_)))) both.0 ∙ reached t ps after_ o rule both.1 fails

pub operand_refused : (t : State) (random : List ℕ) (r : Request) (o : Operand) (rule : ℕ) → IsReached t r o → first_failing (operand_checks t o.text o.ask) ≡ Some rule
    → verdict t random r ≡ Some (refusal rule o.name)
operand_refused t random r o rule is fails =
    ap (λ (f : Option ℕ). or_refused f (codes "-") (or_then (operands_verdict t r) (whole_verb_verdict t random r))) is.general
    ∙ (ap (λ (os : List Operand). or_then (first_refusal (operand_questions t os)) (whole_verb_verdict t random r)) is.among
    ∙ ap (λ (v : Option Refusal). or_then v (whole_verb_verdict t random r)) (reached t is.before is.after o rule is.earlier fails))

-- ---- the law

module _ (s : State) (label : List ℕ) (kind : KeyType) (b : BroughtIn label kind s) where
  pub sizes : HasLength kind (size_of label kind s b) × All (AreBytes (size_of label kind s b)) (parts_of label kind s b)
  sizes = let m = made s label kind b in (m.has, m.bytes)

  pub whole_key : key_of_label b.now label ≡ Some (made_of s label kind b)
  whole_key = let m = made s label kind b in ap (λ (t : State). key_of_label t label) m.now ∙ key_found s label m.label_.cell m.label_.held (made_of s label kind b)

  pub other_records : (other : List ℕ) → other ≢ label → SameRecord s b.now other
  other_records other apart =
      let m = made s label kind b in
      subst (λ (t : State). SameRecord s t other) (sym m.now)
      (record { cell = cells_stay s label m.label_.cell m.label_.held (made_of s label kind b) other; key = other_stays s label m.label_.cell m.label_.held (made_of s label kind b) other apart })

  pub rest_stays : (cell_with b.now label ≡ cell_with s label) × (b.now.roles ≡ s.roles) × (b.now.registers ≡ s.registers)
  rest_stays =
      let m = made s label kind b in
      (ap (λ (t : State). cell_with t label) m.now ∙ cells_stay s label m.label_.cell m.label_.held (made_of s label kind b) label, ap (λ (t : State). t.roles) m.now, ap (λ (t : State). t.registers) m.now)

  found_part : (m : IsMade s label kind b) → key_of_label b.before_last label ≡ Some (as_current m.part)
  found_part m = ap (λ (t : State). key_of_label t label) m.before ∙ key_found s label m.label_.cell m.label_.held (as_current m.part)

  pub still_part : (key : Denoted) × (key_of_label b.before_last label ≡ Some key) × (is_part_of key.clear.vector ≡ true)
  still_part = let m = made s label kind b in (as_current m.part, found_part m, m.is_part)

  pub part_refused : (random : List ℕ) (r : Request) (o : Operand) → IsReached b.before_last r o → AsksWhole label o
      → verdict b.before_last random r ≡ Some (refusal 17 o.name)
  part_refused random r o is asks =
      let m = made s label kind b in
      let t : State = b.before_last in
      let held : cell_with t label ≡ Some m.label_.cell =
      ap (λ (x : State). cell_with x label) m.before ∙ (cells_stay s label m.label_.cell m.label_.held (as_current m.part) label ∙ m.label_.held) in
      operand_refused t random r o 17 is
      (ap (λ (a : Ask). first_failing (operand_checks t o.text a)) asks.asks
      ∙ (ap (λ text. first_failing (key_questions t asks.need (label_named text) text)) asks.text
      ∙ (ap (λ (l : Option (List ℕ)). first_failing (key_questions t asks.need l (by_label label))) m.names
      ∙ label_refused t label m.label_.well m.label_.cell held (as_current m.part) (found_part m) m.is_part asks.need asks.whole)))
