-- Each byte of a reply line but its newline is printable ASCII.
use Rattle.std.proofs.Common.{◌≡◌, ℕ, ◌<◌, ◌≤◌, zero, suc, ◌+◌, ◌/◌, ◌%◌, ◌==◌, Bool, true, false, cond, List, [], ◌∷◌, ◌++◌, length, map, take, drop, get_or, Option, None, Some, ⊎_elim, refl, sym, subst, codes, T, arith, decimal}
use Rattle.std.specs.Prelude.{⊤, ◌&&◌, filter, nat_eq, nat_le, nat_lt, if◌then◌else◌}
use Rattle.std.specs.Fmt.{digits, digits_onto, digit_glyph}
use Rattle.std.specs.List.{All, list_all, range_with_len, starts_with}
use Rattle.std.proofs.lemmas.Bool.{and_parts, cases_lt, leb-true, ltb-true}
use Rattle.std.proofs.lemmas.Bool.Decides.{nat_tests}
use Rattle.std.proofs.lemmas.List.{get_or_past}
use Rattle.std.proofs.lemmas.List.Elements.{All-append, All-cons, All-filter, All-get_or, All-head, All-nil, All-tail}
use Rattle.std.proofs.lemmas.List.Sums.{AllPass-from_list_all}
use Rattle.hex.specs.Hex.{encode_with, lower_digits}
use Rattle.std.specs.Str.{bytes_eq}
use Rattle.std.proofs.lemmas.Option.{same_Some}
use Rattle.device_cells.specs.Cells.{body}
use Rattle.cca_roles.specs.Characters.{is_label_byte}
use Rattle.cca_vectors.specs.Checks.{Check, first_failing}
use Rattle.cca_vectors.specs.Classes.{class_of}
use Rattle.cca_vectors.specs.declared.key_class.Class.{Class}
use Rattle.cca_vectors.specs.declared.key_class.Class.TheVariants.{Data, Cipher, Mac, Exporter, Importer, Other}
use Rattle.cipher_verbs.specs.CipherTexts.{deciphered_text}
use Rattle.cipher_verbs.specs.Imported.{data_vector}
use Rattle.des_blocks.specs.Modes.{zero_block}
use Rattle.record_bodies.specs.Directory.{held_count}
use Rattle.record_bodies.specs.Entries.{Entry, directory}
use Rattle.record_bodies.specs.Labels.{IsLabel, is_label, starts_label}
use Rattle.record_bodies.specs.RecordBody.{ReadsEntry, ReadsWhat, kept}
use Rattle.record_bodies.specs.StoreStands.{entry_at}
use Rattle.key_tokens.specs.Denotes.{ClearKey, Denoted, MasterKeys}
use Rattle.key_tokens.specs.Fields.{token_of}
use Rattle.key_tokens.specs.declared.key_token.Kind.{Kind}
use Rattle.key_tokens.specs.declared.key_token.Kind.TheVariants.{Internal, External}
use Rattle.key_transport.specs.declared.changing.Target.{Target}
use Rattle.key_transport.specs.declared.changing.Target.TheVariants.{Current, New}
use Rattle.mac_verbs.specs.Codes.{is_code}
use Rattle.master_registers.specs.Masters.{NewRegister, Empty, Partial, Full}
use Rattle.line_service.specs.Replies.{Field, Hex, Text, Number, Reply, Refused, Done, field_name, field_text, fields_text, hex_field, number_field, ok_text, refusal, spelled, text_field, two_digits, written}
use Rattle.text_segments.specs.Chains.{chain_of, first_chain}
use Rattle.text_segments.specs.Segments.{last_code}
use Rattle.text_segments.specs.declared.chains.Chain.{Chain}
use Rattle.text_segments.specs.declared.modes.Mode.{Mode}
use Rattle.text_segments.specs.declared.modes.Mode.TheVariants as mode
use Rattle.verb_rules.specs.Keys.{keys_of}
use Rattle.verb_script.specs.Grammar.{Request, value_of}
use Rattle.verb_script.specs.declared.rows.RequestName.{RequestName}
use Rattle.verb_script.specs.declared.rows.RequestName.TheVariants.{Csnbktp, Csnbenc, CsnbencFirst, CsnbencMiddle, CsnbencLast, Csnbdec, CsnbdecFirst, CsnbdecMiddle, CsnbdecLast, Csnbmgn, CsnbmgnFirst, CsnbmgnMiddle, CsnbmgnLast, Csnbmvr, CsnbmvrFirst, CsnbmvrMiddle, CsnbmvrLast, Csnbkyt, Csnbcki, Csnbrng, CsnbkgnOp, CsnbkgnPair, CsnbkgnOut, Csnbkim, Csnbkex, Csnbpex, Csnbktc, CsnbkpiFirst, CsnbkpiMiddle, Csnbktr, Csnbkrr, Csnbkrl}
use Rattle.verb_script.specs.Named.{is_label_text, is_named, is_visible, label_named}
use Rattle.verb_script.specs.Requests.{request_of}
use Rattle.cca_machine.specs.Act.{Effect, Show, Become, Write, ChangeLabels, class_name, code_segment_fields, delivered_with, effect, fields_after, kind_name, new_name, or_act, or_empty, performed, segment_fields, shown_last, token_out, type1_of, type2_of, yes_or_no}
use Rattle.cca_machine.specs.Choices.{form_named, mac_rule_named, pad_named, target_named, type_in}
use Rattle.cca_machine.specs.Keys.{any_old, cell_with, imported, key_bytes, key_in_field, key_in_text, key_named, key_of_label, key_of_request, key_of_token, or_no_clear, or_no_key, warning, what_at, what_in}
use Rattle.cca_machine.specs.Lines.{line_checks, line_outcome, outcome_by, taken_by}
use Rattle.cca_machine.specs.Listing.{ascending, beginning, first_label, has_rank, label_fields, nth_label, with_commas}
use Rattle.cca_machine.specs.Operands.{Operand, listed, operands, operands_of}
use Rattle.cca_machine.specs.Draws.{length_in}
use Rattle.cca_machine.specs.State.{State, IsStoreOf}
use Rattle.cca_machine.specs.Verdict.{Questions, Refusal, bytes_in, chain_in, change_questions, code_rule, first_refusal, general_checks, key_questions, operand_checks, operand_questions, operands_verdict, or_refused, or_then, part_in, target_checks, verb_questions, verb_verdict, verdict}
use Rattle.cca_machine.specs.declared.asking.Ask.{Ask}
use Rattle.cca_machine.specs.declared.asking.Ask.TheVariants as ask
use Rattle.verb_rules.specs.declared.needs.Need.{Need}
use Rattle.cca_laws.specs.ReplyLines.{IsPrintableLine}
use Rattle.cca_laws.proofs.LineCases.{of_verdict}
use Rattle.cca_laws.proofs.ByteLaws.{AreSome, Bytes, HasBytes, HasClearVector, HasVector, IsByte, bytes_chain, bytes_changed_token, bytes_closed, bytes_code_of, bytes_deciphered, bytes_enciphered, bytes_external, bytes_form, bytes_front, bytes_generated, bytes_hex, bytes_last_code, bytes_last_text, bytes_part, bytes_segment, bytes_token, bytes_vector_for, drops, either, literal, none, slices, takes, vector_denoted, vector_under, vector_where, zeros}
use Rattle.cca_laws.proofs.CleanLaws.{both, first_of_both, second_of_both, true_of}
use Rattle.cca_laws.proofs.ReplyLaws.{AreLabels, HasLabels, store_labels}

-- ---- printable characters

abbrev pub IsPrintable : ℕ → Type 0
IsPrintable c = (32 ≤ c) × (c ≤ 126)

abbrev pub Printable : List ℕ → Type 0
Printable xs = All IsPrintable xs

abbrev is_text : List ℕ → Bool
is_text xs = list_all (λ c. nat_le 32 c && nat_le c 126) xs

of_test : (c : ℕ) → (nat_le 32 c && nat_le c 126) ≡ true → IsPrintable c
of_test c is = let parts = and_parts (nat_le 32 c) (nat_le c 126) is in (leb-true 32 c parts.0, leb-true c 126 parts.1)

-- characters that are written out
text : (xs : List ℕ) → T (is_text xs) → Printable xs
text xs is k d within = of_test (get_or xs k d) (AllPass-from_list_all (λ c. nat_le 32 c && nat_le c 126) xs (true_of (is_text xs) is) k d within)

joins : (xs ys : List ℕ) → Printable xs → Printable ys → Printable (xs ++ ys)
joins = All-append IsPrintable

one : (c : ℕ) (xs : List ℕ) → IsPrintable c → Printable xs → Printable (c ∷ xs)
one = All-cons IsPrintable

-- ---- digits

digit : (n : ℕ) → n < 16 → IsPrintable (get_or lower_digits n 0)
digit n small = All-get_or IsPrintable lower_digits n 0 small (text lower_digits tt)

hex_prints : (bytes : List ℕ) → Bytes bytes → Printable (encode_with lower_digits bytes)
unfolding encode_with
hex_prints [] are = All-nil IsPrintable
hex_prints (b ∷ rest) are =
    let small : b < 256 = All-head IsByte b rest are in
    one (get_or lower_digits (b / 16) 0) (get_or lower_digits (b % 16) 0 ∷ encode_with lower_digits rest) (digit (b / 16) (omega arith))
    (one (get_or lower_digits (b % 16) 0) (encode_with lower_digits rest) (digit (b % 16) (omega arith)) (hex_prints rest (All-tail IsByte b rest are)))

glyph_prints : (d : ℕ) → d < 10 → IsPrintable (digit_glyph false d)
glyph_prints d small = by_test (nat_lt d 10)
  where
    by_test : (t : Bool) → IsPrintable (if t then 48 + d else 87 + d)
    by_test true = (omega arith, omega arith)
    by_test false = (omega arith, omega arith)

either_prints : (t : Bool) (first other : List ℕ) → Printable first → Printable other → Printable (if t then first else other)
either_prints true first other are so = are
either_prints false first other are so = so

onto_prints : (k n : ℕ) (acc : List ℕ) → Printable acc → Printable (digits_onto k 10 false n acc)
onto_prints zero n acc are = are
onto_prints (suc k) n acc are =
    let more : Printable (digit_glyph false (n % 10) ∷ acc) = one (digit_glyph false (n % 10)) acc (glyph_prints (n % 10) (omega arith)) are in
    either_prints (n / 10 == 0) (digit_glyph false (n % 10) ∷ acc) (digits_onto k 10 false (n / 10) (digit_glyph false (n % 10) ∷ acc)) more
    (onto_prints k (n / 10) (digit_glyph false (n % 10) ∷ acc) more)

decimal_prints : (n : ℕ) → Printable (decimal n)
unfolding digits
decimal_prints n = onto_prints 64 n [] (All-nil IsPrintable)

-- ---- fields

-- a field whose name and text are printable, and whose bytes are bytes
abbrev pub IsFit : Field → Type 0
IsFit (Hex name bytes) = T (is_text name) × Bytes bytes
IsFit (Text name bytes) = T (is_text name) × Printable bytes
IsFit (Number name value) = T (is_text name)

abbrev pub AreFit : List Field → Type 0
AreFit [] = ⊤
AreFit (f ∷ fs) = IsFit f × AreFit fs

name_prints : (name : List ℕ) → T (is_text name) → Printable (field_name name)
unfolding field_name
name_prints name is = joins (codes " " ++ name) (codes "=") (joins (codes " ") name (text (codes " ") tt) (text name is)) (text (codes "=") tt)

field_prints : (f : Field) → IsFit f → Printable (field_text f)
unfolding hex_field text_field number_field
field_prints (Hex name bytes) fits = joins (field_name name) _ (name_prints name fits.0) (hex_prints bytes fits.1)
field_prints (Text name bytes) fits = joins (field_name name) bytes (name_prints name fits.0) fits.1
field_prints (Number name value) fits = joins (field_name name) (decimal value) (name_prints name fits) (decimal_prints value)

fields_print : (fields : List Field) → AreFit fields → Printable (fields_text fields)
fields_print [] fit = All-nil IsPrintable
fields_print (f ∷ fs) fit = joins (field_text f) (fields_text fs) (field_prints f fit.0) (fields_print fs fit.1)

fit_append : (fs gs : List Field) → AreFit fs → AreFit gs → AreFit (fs ++ gs)
fit_append [] gs first second = second
fit_append (f ∷ fs) gs first second = (first.0, fit_append fs gs first.1 second)

-- ---- replies

abbrev pub IsFitReply : Reply → Type 0
IsFitReply (Refused rule operand) = (rule < 100) × T (is_text operand)
IsFitReply (Done fields) = AreFit fields

two_print : (n : ℕ) → n < 100 → Printable (two_digits n)
two_print n small = one (48 + n / 10) ((48 + n % 10) ∷ []) (omega arith, omega arith) (one (48 + n % 10) [] (omega arith, omega arith) (All-nil IsPrintable))

refusal_prints : (rule : ℕ) (operand : List ℕ) → rule < 100 → T (is_text operand) → Printable (refusal rule operand)
unfolding refusal
refusal_prints rule operand small is =
    joins (codes "NO " ++ two_digits rule ++ codes " ") operand
    (joins (codes "NO " ++ two_digits rule) (codes " ") (joins (codes "NO ") (two_digits rule) (text (codes "NO ") tt) (two_print rule small)) (text (codes " ") tt))
    (text operand is)

written_prints : (fields : List Field) → AreFit fields → Printable (written fields)
unfolding ok_text
written_prints fields fit = joins (codes "OK") (fields_text fields) (text (codes "OK") tt) (fields_print fields fit)

line_prints : (reply : Reply) → IsFitReply reply → IsPrintableLine (spelled reply)
line_prints (Refused rule operand) fits = record { text = refusal rule operand; whole = refl; printable = refusal_prints rule operand fits.0 fits.1 }
line_prints (Done fields) fits = record { text = written fields; whole = refl; printable = written_prints fields fits }

-- ---- labels

visible_prints : (c : ℕ) → is_visible c ≡ true → IsPrintable c
visible_prints c is =
    let parts = and_parts (nat_le 0x21 c) (nat_le c 0x7e) is in
    let low : 33 ≤ c = leb-true 33 c parts.0 in
    let high : c ≤ 126 = leb-true c 126 parts.1 in
    (omega arith, high)

low_label : (c : ℕ) → is_label_byte c ≡ true → 32 ≤ c
low_label c is = grind (arith, nat_tests)

high_label : (c : ℕ) → is_label_byte c ≡ true → c ≤ 126
high_label c is = grind (arith, nat_tests)

label_prints : (label : List ℕ) → IsLabel label → Printable label
unfolding is_label
label_prints label is k d within =
    let each : is_label_byte (get_or label k d) ≡ true =
    AllPass-from_list_all is_label_byte label (and_parts (starts_label label && nat_le (length label) 64) (list_all is_label_byte label) is).1 k d within in
    (low_label (get_or label k d) each, high_label (get_or label k d) each)

named_prints : (name label : List ℕ) → label_named name ≡ Some label → Printable label
named_prints name label is = by_test (is_named name) refl is
  where
    behind : is_named name ≡ true → Printable (drop 2 name)
    behind named k d within =
        visible_prints (get_or (drop 2 name) k d)
        (AllPass-from_list_all is_visible (drop 2 name) (and_parts _ (list_all is_visible (drop 2 name)) (and_parts _ (is_label_text (drop 2 name)) named).1).1 k d within)

    by_test : (t : Bool) → is_named name ≡ t → (if t then Some (drop 2 name) else None) ≡ Some label → Printable label
    by_test true named same = subst Printable (same_Some (drop 2 name) label same) (behind named)
    by_test false named same = cc same

commas_print : (ls : List (List ℕ)) → All Printable ls → Printable (with_commas ls)
commas_print [] are = All-nil IsPrintable
commas_print (l ∷ []) are = All-head Printable l [] are
commas_print (l ∷ next ∷ ls) are =
    joins l (codes "," ++ with_commas (next ∷ ls)) (All-head Printable l (next ∷ ls) are)
    (joins (codes ",") (with_commas (next ∷ ls)) (text (codes ",") tt) (commas_print (next ∷ ls) (All-tail Printable l (next ∷ ls) are)))

each_prints : (f : ℕ → List ℕ) → ((n : ℕ) → Printable (f n)) → (ns : List ℕ) → All Printable (map f ns)
each_prints f each [] = All-nil Printable
each_prints f each (n ∷ ns) = All-cons Printable (f n) (map f ns) (each n) (each_prints f each ns)

first_prints : (test : Option (List ℕ) → Bool) (d : List (Option (List ℕ))) → AreLabels d → Printable (first_label (filter test d))
first_prints test [] are = All-nil IsPrintable
first_prints test (None ∷ d) are = by_test (test None) (first_prints test d are)
  where
    by_test : (t : Bool) → Printable (first_label (filter test d)) → Printable (first_label (cond t (None ∷ filter test d) (filter test d)))
    by_test true later = later
    by_test false later = later
first_prints test (Some l ∷ d) are = by_test (test (Some l)) (first_prints test d are.1)
  where
    by_test : (t : Bool) → Printable (first_label (filter test d)) → Printable (first_label (cond t (Some l ∷ filter test d) (filter test d)))
    by_test true later = label_prints l are.0
    by_test false later = later

listing_fits : (prefix : List ℕ) (d : List (Option (List ℕ))) → AreLabels d → AreFit (label_fields prefix d)
unfolding label_fields
listing_fits prefix d are = (
  tt,
  (
    (
      tt,
      commas_print (beginning prefix (ascending d))
          (All-filter (λ label. starts_with nat_eq label prefix) Printable (ascending d)
          (each_prints (nth_label d) (λ n. first_prints (has_rank n d) d are) (range_with_len 0 (held_count d)))),
    ),
    tt,
  ),
)

-- ---- the vectors of the keys that labels have

abbrev HasVectors : List (Option Entry) → Type 0
HasVectors es = (n : ℕ) → HasVector (what_in (entry_at es n))

entry_vector : (masters : MasterKeys) (bytes : List ℕ) (e : Option Entry) → ReadsEntry masters bytes e → HasVector (what_in e)
unfolding kept
entry_vector masters bytes None reads = tt
entry_vector masters bytes (Some e) reads = by_what e.what reads.1
  where
    kept_vector : (token : List ℕ) → Bytes token → HasVector (kept masters token)
    kept_vector token are = vector_where _ _ (vector_denoted token are masters)

    by_what : (o : Option Denoted) → ReadsWhat masters bytes e.label o e.ahead e.unused → HasVector o
    by_what None what = tt
    by_what (Some key) what = subst HasVector what.is_kept (kept_vector what.token what.are.each)

store_vectors : (s : State) (image : List ℕ) → IsStoreOf s image → HasVectors s.labels
store_vectors s image stands n = ⊎_elim
    (λ (within : n < 1024). entry_vector (keys_of s.registers) (body image n) (entry_at s.labels n) (stands.reads n within))
    (λ (past : 1024 ≤ n). subst (λ (e : Option Entry). HasVector (what_in e)) (sym (get_or_past s.labels n None (subst (λ k. k ≤ n) (sym stands.size) past))) tt)
    (cases_lt n 1024)

-- ---- the fields of each effect

abbrev pub IsFitEffect : Effect → Type 0
IsFitEffect (Show fields) = AreFit fields
IsFitEffect (Write label key fields) = AreFit fields
IsFitEffect _ = ⊤

answer_prints : (b : Bool) → Printable (yes_or_no b)
answer_prints true = text (codes "yes") tt
answer_prints false = text (codes "no") tt

kind_prints : (k : Kind) → Printable (kind_name k)
kind_prints Internal = text (codes "internal") tt
kind_prints External = text (codes "external") tt

class_prints : (k : Class) → Printable (class_name k)
class_prints Data = text (codes "DATA") tt
class_prints Cipher = text (codes "CIPHER") tt
class_prints Mac = text (codes "MAC") tt
class_prints Exporter = text (codes "EXPORTER") tt
class_prints Importer = text (codes "IMPORTER") tt
class_prints Other = text (codes "OTHER") tt

some_bytes : (o : Option (List ℕ)) → AreSome o → Bytes (or_empty o)
some_bytes None are = none
some_bytes (Some bytes) are = are

clear_vector : (o : Option Denoted) → HasVector o → Bytes (or_no_key o).clear.vector
clear_vector None has = none
clear_vector (Some d) has = has

imported_vector : (o : Option ClearKey) → HasClearVector o → Bytes (or_no_clear o).vector
imported_vector None has = none
imported_vector (Some clear) has = has

bytes_of : (r : Request) (name : List ℕ) → Bytes (bytes_in r name)
bytes_of r name = bytes_hex (value_of r name)

starts_with_bytes : (start : List ℕ) → Bytes start → HasBytes (first_chain start)
starts_with_bytes start are = record { block = are; carried = none }

chain_has : (bytes : List ℕ) → Bytes bytes → HasBytes (chain_of bytes)
chain_has bytes are = record { block = takes 8 bytes are; carried = takes _ (drop 9 bytes) (drops 9 bytes are) }

module _ (s : State) (vectors : HasVectors s.labels) where
  label_vector : (label : List ℕ) → HasVector (key_of_label s label)
  label_vector label = by_cell (cell_with s label)
    where
      by_cell : (o : Option ℕ) → HasVector (what_at s.labels o)
      by_cell None = tt
      by_cell (Some cell) = vectors cell

  text_vector : (name : List ℕ) → HasVector (key_in_text s name)
  text_vector name = by_label (label_named name)
    where
      by_label : (o : Option (List ℕ)) → HasVector (key_named s o name)
      by_label None = vector_denoted (key_bytes name) (bytes_hex (drop 2 name)) (keys_of s.registers)
      by_label (Some label) = label_vector label

  request_vector : (r : Request) → Bytes (key_of_request s r).vector
  request_vector r = clear_vector (key_in_text s (value_of r (codes "key"))) (text_vector (value_of r (codes "key")))

  token_vector : (r : Request) → Bytes (or_no_key (key_of_token s (bytes_in r (codes "token")))).clear.vector
  token_vector r = clear_vector (key_of_token s (bytes_in r (codes "token"))) (vector_denoted (bytes_in r (codes "token")) (bytes_of r (codes "token")) (keys_of s.registers))

  import_vector : (transport : ClearKey) (r : Request) → Bytes (imported transport (bytes_in r (codes "token"))).vector
  import_vector transport r = imported_vector _ (vector_under transport.key (bytes_in r (codes "token")) (bytes_of r (codes "token")))

  delivered_fits : (r : Request) (field : List ℕ) (key : Denoted) (fields : List Field) → T (is_text field) → Bytes key.clear.vector → AreFit fields
      → IsFitEffect (delivered_with s field (label_named (value_of r (codes "to"))) key fields)
  delivered_fits r field key fields name vector more = by_label (label_named (value_of r (codes "to"))) refl
    where
      by_label : (o : Option (List ℕ)) → label_named (value_of r (codes "to")) ≡ o → IsFitEffect (delivered_with s field o key fields)
      by_label None is = ((name, bytes_token key.clear vector s.registers key.age), more)
      by_label (Some label) is = ((tt, named_prints (value_of r (codes "to")) label is), more)

  segment_fits : (clear : ClearKey) (mode : Mode) (chain : Chain) (r : Request) → HasBytes chain → AreFit (segment_fields clear mode chain (bytes_in r (codes "text")))
  segment_fits clear mode chain r has = (
    (tt, bytes_segment clear chain (bytes_in r (codes "text")) has (bytes_of r (codes "text")) mode),
    ((tt, bytes_chain clear chain (bytes_in r (codes "text")) has (bytes_of r (codes "text")) mode), tt),
  )

  code_fits : (clear : ClearKey) (r : Request) (chain : Chain) → HasBytes chain → AreFit (code_segment_fields clear (code_rule r) chain (bytes_in r (codes "text")))
  code_fits clear r chain has = ((tt, bytes_chain clear chain (bytes_in r (codes "text")) has (bytes_of r (codes "text")) (mode.Mac (code_rule r))), tt)

  last_fits : (mode : Mode) (r : Request) → IsFitEffect (shown_last s mode r)
  last_fits mode r = (
    (
      tt,
      some_bytes _
          (bytes_last_text (key_of_request s r) (chain_in r) (bytes_in r (codes "text")) (chain_has (bytes_in r (codes "chain")) (bytes_of r (codes "chain"))) (bytes_of r (codes "text")) mode
          (pad_named (value_of r (codes "pad")))),
    ),
    tt,
  )

  start_of : (r : Request) → HasBytes (first_chain (bytes_in r (codes "iv")))
  start_of r = starts_with_bytes (bytes_in r (codes "iv")) (bytes_of r (codes "iv"))

  zero_start : HasBytes (first_chain zero_block)
  zero_start = starts_with_bytes zero_block (zeros 8)

  chain_given : (r : Request) → HasBytes (chain_in r)
  chain_given r = chain_has (bytes_in r (codes "chain")) (bytes_of r (codes "chain"))

  out_fits : (r : Request) (field : List ℕ) (clear : ClearKey) → Bytes clear.vector → Bytes (token_out s r field clear)
  out_fits r field clear vector = bytes_external clear vector (key_in_field s r field).key

  module _ (labels : HasLabels s) (drawn : List ℕ) (are : Bytes drawn) where
    effect_fits : (name : RequestName) (r : Request) → IsFitEffect (effect s drawn name r)
    effect_fits Csnbktp r = (
      (tt, kind_prints (token_of (bytes_in r (codes "token"))).kind),
      (
        (tt, class_prints (class_of (token_of (bytes_in r (codes "token"))).vector)),
        (
          tt,
          (
            (tt, either _ _ _ (slices _ 0 8 (slices _ 32 48 (bytes_of r (codes "token")))) (slices _ 32 48 (bytes_of r (codes "token")))),
            ((tt, slices _ 8 16 (bytes_of r (codes "token"))), tt),
          ),
        ),
      ),
    )
    effect_fits Csnbenc r = ((tt, bytes_enciphered (key_of_request s r) (bytes_in r (codes "iv")) (pad_named (value_of r (codes "pad"))) (bytes_in r (codes "text"))), tt)
    effect_fits CsnbencFirst r = segment_fits (key_of_request s r) mode.Encipher (first_chain (bytes_in r (codes "iv"))) r (start_of r)
    effect_fits CsnbencMiddle r = segment_fits (key_of_request s r) mode.Encipher (chain_in r) r (chain_given r)
    effect_fits CsnbencLast r = last_fits mode.Encipher r
    effect_fits Csnbdec r = (
      (
        tt,
        some_bytes (deciphered_text (key_of_request s r) (bytes_in r (codes "iv")) (pad_named (value_of r (codes "pad"))) (bytes_in r (codes "text")))
            (bytes_deciphered (key_of_request s r) (bytes_in r (codes "iv")) (pad_named (value_of r (codes "pad"))) (bytes_in r (codes "text")) (bytes_of r (codes "iv"))
            (bytes_of r (codes "text"))),
      ),
      tt,
    )
    effect_fits CsnbdecFirst r = segment_fits (key_of_request s r) mode.Decipher (first_chain (bytes_in r (codes "iv"))) r (start_of r)
    effect_fits CsnbdecMiddle r = segment_fits (key_of_request s r) mode.Decipher (chain_in r) r (chain_given r)
    effect_fits CsnbdecLast r = last_fits mode.Decipher r
    effect_fits Csnbmgn r = ((tt, takes _ _ (bytes_code_of (mac_rule_named (value_of r (codes "rule"))) (key_of_request s r) (bytes_in r (codes "text")))), tt)
    effect_fits CsnbmgnFirst r = code_fits (key_of_request s r) r (first_chain zero_block) zero_start
    effect_fits CsnbmgnMiddle r = code_fits (key_of_request s r) r (chain_in r) (chain_given r)
    effect_fits CsnbmgnLast r = (
      (tt, takes _ _ (bytes_last_code (key_of_request s r) (chain_in r) (bytes_in r (codes "text")) (chain_given r) (bytes_of r (codes "text")) (code_rule r))),
      tt,
    )
    effect_fits Csnbmvr r = (
      (tt, answer_prints (is_code (mac_rule_named (value_of r (codes "rule"))) (key_of_request s r) (bytes_in r (codes "text")) (bytes_in r (codes "mac")))),
      tt,
    )
    effect_fits CsnbmvrFirst r = code_fits (key_of_request s r) r (first_chain zero_block) zero_start
    effect_fits CsnbmvrMiddle r = code_fits (key_of_request s r) r (chain_in r) (chain_given r)
    effect_fits CsnbmvrLast r = (
      (
        tt,
        answer_prints
            (bytes_eq (bytes_in r (codes "mac"))
            (take (length (bytes_in r (codes "mac"))) (last_code (key_of_request s r) (code_rule r) (chain_in r) (bytes_in r (codes "text"))))),
      ),
      tt,
    )
    effect_fits Csnbkyt r = ((tt, bytes_front 4 (key_of_request s r).key zero_block), tt)
    effect_fits Csnbcki r = delivered_fits r (codes "token") _ [] tt (literal data_vector refl) tt
    effect_fits Csnbrng r = ((tt, bytes_form (form_named (value_of r (codes "form"))) drawn are), tt)
    effect_fits CsnbkgnOp r = delivered_fits r (codes "token1") _ [] tt (bytes_generated (type1_of r) (length_in r)) tt
    effect_fits CsnbkgnPair r =
        delivered_fits r (codes "token1") _ _ tt (bytes_generated (type1_of r) (length_in r))
        ((tt, out_fits r (codes "transport2") _ (bytes_generated (type2_of r) (length_in r))), tt)
    effect_fits CsnbkgnOut r = (
      (tt, out_fits r (codes "transport1") _ (bytes_generated (type1_of r) (length_in r))),
      ((tt, out_fits r (codes "transport2") _ (bytes_generated (type2_of r) (length_in r))), tt),
    )
    effect_fits Csnbkim r = delivered_fits r (codes "token") _ [] tt (import_vector (key_in_field s r (codes "transport")) r) tt
    effect_fits Csnbkex r = ((tt, out_fits r (codes "transport") (key_of_request s r) (request_vector r)), tt)
    effect_fits Csnbpex r = delivered_fits r (codes "token") _ [] tt (bytes_closed (key_of_request s r).vector (request_vector r)) tt
    effect_fits Csnbktc r = (
      (tt, bytes_changed_token (or_no_key (key_of_token s (bytes_in r (codes "token")))).clear (token_vector r) s.registers (target_named (value_of r (codes "rule")))),
      tt,
    )
    effect_fits CsnbkpiFirst r =
        delivered_fits r (codes "token") _ [] tt (bytes_part _ (bytes_vector_for (type_in (value_of r (codes "type"))) (length (part_in r)))) tt
    effect_fits CsnbkpiMiddle r =
        delivered_fits r (codes "token") _ [] tt (either _ _ _ (bytes_part (key_of_request s r).vector (request_vector r)) (request_vector r)) tt
    effect_fits Csnbktr r = ((tt, out_fits r (codes "transport2") _ (import_vector (key_in_field s r (codes "transport1")) r)), tt)
    effect_fits Csnbkrr r = (
      (
        tt,
        bytes_token (or_no_key (key_of_label s (value_of r (codes "label")))).clear
            (clear_vector (key_of_label s (value_of r (codes "label"))) (label_vector (value_of r (codes "label")))) s.registers
            (or_no_key (key_of_label s (value_of r (codes "label")))).age,
      ),
      tt,
    )
    effect_fits Csnbkrl r = listing_fits (value_of r (codes "prefix")) (directory s.labels) labels
    effect_fits _ r = tt

state_prints : (new : NewRegister) → Printable (new_name new)
state_prints Empty = text (codes "empty") tt
state_prints (Partial bytes) = text (codes "partial") tt
state_prints (Full bytes) = text (codes "full") tt

after_fits : (s : State) (e : Effect) → IsFitEffect e → AreFit (fields_after s e)
after_fits s (Become m labels) fits = ((tt, state_prints m.coming), tt)
after_fits s (Show fields) fits = fits
after_fits s (Write label key fields) fits = fits
after_fits s (ChangeLabels a) fits = (tt, tt)
after_fits s _ fits = tt

warning_fits : (b : Bool) → AreFit (warning b)
warning_fits true = ((tt, text (codes "old") tt), tt)
warning_fits false = tt

-- ---- the rule and the operand of a refusal

-- the number of the rule has two digits
abbrev IsRuled : Option ℕ → Type 0
IsRuled None = ⊤
IsRuled (Some rule) = rule < 100

abbrev are_ruled : List Check → Bool
are_ruled checks = list_all (λ (c : Check). nat_lt c.rule 100) checks

failing_ruled : (checks : List Check) → T (are_ruled checks) → IsRuled (first_failing checks)
failing_ruled [] ruled = tt
failing_ruled (c ∷ cs) ruled = by_test c.fails (failing_ruled cs (second_of_both (nat_lt c.rule 100) (are_ruled cs) ruled))
  where
    by_test : (t : Bool) → IsRuled (first_failing cs) → IsRuled (if t then Some c.rule else first_failing cs)
    by_test true later = ltb-true c.rule 100 (true_of (nat_lt c.rule 100) (first_of_both (nat_lt c.rule 100) (are_ruled cs) ruled))
    by_test false later = later

abbrev IsFitRefusal : Option Refusal → Type 0
IsFitRefusal None = ⊤
IsFitRefusal (Some r) = (r.rule < 100) × T (is_text r.operand)

abbrev is_ruled : Questions → Bool
is_ruled q = is_text q.operand && are_ruled q.checks

abbrev are_sound : List Questions → Bool
are_sound qs = list_all is_ruled qs

refused_fits : (o : Option ℕ) (operand : List ℕ) (others : Option Refusal) → IsRuled o → T (is_text operand) → IsFitRefusal others → IsFitRefusal (or_refused o operand others)
refused_fits None operand others ruled name more = more
refused_fits (Some rule) operand others ruled name more = (ruled, name)

questions_fit : (qs : List Questions) → T (are_sound qs) → IsFitRefusal (first_refusal qs)
questions_fit [] sound = tt
questions_fit (q ∷ qs) sound =
    let first : T (is_ruled q) = first_of_both (is_ruled q) (are_sound qs) sound in
    refused_fits (first_failing q.checks) q.operand (first_refusal qs) (failing_ruled q.checks (second_of_both (is_text q.operand) (are_ruled q.checks) first))
    (first_of_both (is_text q.operand) (are_ruled q.checks) first) (questions_fit qs (second_of_both (is_ruled q) (are_sound qs) sound))

module _ (s : State) where
  key_ruled : (need : Need) (o : Option (List ℕ)) (name : List ℕ) → T (are_ruled (key_questions s need o name))
  key_ruled need None name = tt
  key_ruled need (Some label) name = tt

  target_ruled : (o : Option (List ℕ)) → T (are_ruled (target_checks s o))
  target_ruled None = tt
  target_ruled (Some label) = tt

  ask_ruled : (name : List ℕ) (a : Ask) → T (are_ruled (operand_checks s name a))
  ask_ruled name ask.AnyToken = tt
  ask_ruled name (ask.Key need) = key_ruled need (label_named name) name
  ask_ruled name (ask.Token need) = tt
  ask_ruled name (ask.External need) = tt
  ask_ruled name ask.Record = tt
  ask_ruled name ask.Held = tt
  ask_ruled name ask.NewLabel = tt
  ask_ruled name ask.Target = target_ruled (label_named name)
  ask_ruled name ask.Nothing = tt

  abbrev are_texts : List Operand → Bool
  are_texts os = list_all (λ (o : Operand). is_text o.name) os

  asked_sound : (os : List Operand) → T (are_texts os) → T (are_sound (operand_questions s os))
  asked_sound [] named = tt
  asked_sound (o ∷ os) named =
      both (is_text o.name && are_ruled (operand_checks s o.text o.ask)) _
      (both (is_text o.name) (are_ruled (operand_checks s o.text o.ask)) (first_of_both (is_text o.name) (are_texts os) named) (ask_ruled o.text o.ask))
      (asked_sound os (second_of_both (is_text o.name) (are_texts os) named))

  operands_named : (name : RequestName) (r : Request) → T (are_texts (listed (operands_of name r)))
  operands_named Csnbktp r = tt
  operands_named _ r = tt

  change_sound : (t : Target) → T (are_sound (change_questions s t))
  change_sound Current = tt
  change_sound New = tt

  verb_sound : (name : RequestName) (r : Request) → T (are_sound (verb_questions s name r))
  verb_sound Csnbktc r = change_sound (target_named (value_of r (codes "rule")))
  verb_sound _ r = tt

then_fits : (a b : Option Refusal) → IsFitRefusal a → IsFitRefusal b → IsFitRefusal (or_then a b)
then_fits None b first second = second
then_fits (Some r) b first second = first

verdict_fits : (s : State) (random : List ℕ) (r : Request) → IsFitRefusal (verdict s random r)
verdict_fits s random r =
    of_verdict IsFitRefusal (omega arith, tt) s random r
    (refused_fits (first_failing (general_checks s r)) (codes "-") (or_then (operands_verdict s r) (verb_verdict s r)) (failing_ruled (general_checks s r) tt) tt
    (then_fits (operands_verdict s r) (verb_verdict s r)
    (questions_fit (operand_questions s (listed (operands r))) (asked_sound s (listed (operands r)) (operands_named s r.name r)))
    (questions_fit (verb_questions s r.name r) (verb_sound s r.name r))))

-- ---- each reply

module _ (s : State) (labels : HasLabels s) (vectors : HasVectors s.labels) where
  by_verdict : (drawn : List ℕ) → Bytes drawn → (r : Request) (v : Option Refusal) → IsFitRefusal v → IsFitReply (or_act v s drawn r).reply
  by_verdict drawn are r (Some refusal) fits = fits
  by_verdict drawn are r None fits =
      fit_append (fields_after s (effect s drawn r.name r)) (warning (any_old s (listed (operands r))))
      (after_fits s (effect s drawn r.name r) (effect_fits s vectors labels drawn are r.name r)) (warning_fits (any_old s (listed (operands r))))

  by_checks : (random : List ℕ) → Bytes random → (o : Option ℕ) → IsRuled o → (q : Option Request) → IsFitReply (outcome_by o s random q).reply
  unfolding performed
  by_checks random are (Some rule) ruled q = (ruled, tt)
  by_checks random are None ruled None = (omega arith, tt)
  by_checks random are None ruled (Some r) =
      let count : ℕ = taken_by s random r in
      let drawn : List ℕ = take count random in by_verdict drawn (takes count random are) r (verdict s drawn r) (verdict_fits s drawn r)

  reply_prints : (random line : List ℕ) → Bytes random → IsPrintableLine (spelled (line_outcome s random line).reply)
  unfolding line_outcome
  reply_prints random line are =
      line_prints (line_outcome s random line).reply
      (by_checks random are (first_failing (line_checks line (request_of line))) (failing_ruled (line_checks line (request_of line)) tt) (request_of line))

pub printable_reply : (s : State) (image random line : List ℕ) → IsStoreOf s image → Bytes random → IsPrintableLine (spelled (line_outcome s random line).reply)
printable_reply s image random line stands are = reply_prints s (store_labels s image stands) (store_vectors s image stands) random line are
