-- A reply line has at most 69,632 bytes.
use Rattle.std.proofs.Common.{◌≡◌, ℕ, suc, ◌+◌, ◌*◌, ◌≤◌, ◌==◌, Bool, true, false, cond, not, List, [], ◌∷◌, ◌++◌, length, map, take, drop, Option, None, Some, inl, inr, refl, sym, ap, subst, codes, T, arith, decimal, ◌∙◌, length-append}
use Rattle.std.specs.Prelude.{⊤, nat_le, nat_eq, filter, if◌then◌else◌, slice_index}
use Rattle.std.specs.List.{list_all, range_with_len, starts_with}
use Rattle.std.specs.Str.{bytes_eq}
use Rattle.std.proofs.lemmas.Bool.{and_parts, cases_lt}
use Rattle.std.proofs.lemmas.Bool.Decides.{nat_tests}
use Rattle.std.proofs.lemmas.Grind.{flat_map-append}
use Rattle.std.proofs.lemmas.List.{get_or_past, length-map}
use Rattle.std.proofs.lemmas.List.FromFn.{length-map-range_with_len}
use Rattle.std.proofs.lemmas.List.Sums.{count_by-le-length, length-filter}
use Rattle.hex.specs.Hex.{encode_lower, lower_digits}
use Rattle.hex.proofs.HexLemmas.{length-encode_with}
use Rattle.device_cells.specs.Cells.{body}
use Rattle.cca_vectors.specs.Checks.{first_failing}
use Rattle.cca_vectors.specs.Bits.{even_byte}
use Rattle.cca_vectors.specs.Classes.{class_of}
use Rattle.cca_vectors.specs.Vectors.{left_of, length_of}
use Rattle.cca_vectors.specs.declared.key_class.Class.{Class}
use Rattle.cca_vectors.specs.declared.key_class.Class.TheVariants.{Data, Cipher, Mac, Exporter, Importer, Other}
use Rattle.cipher_verbs.specs.CipherTexts.{deciphered_text, enciphered_text, enciphering, test_value}
use Rattle.cipher_verbs.specs.Imported.{imported_key}
use Rattle.cipher_verbs.specs.RandomBytes.{in_form}
use Rattle.cipher_verbs.specs.declared.padding.Pad.{Pad}
use Rattle.cipher_verbs.specs.declared.random.RandomForm.{RandomForm}
use Rattle.cipher_verbs.specs.declared.random.RandomForm.TheVariants.{Random, Odd, Even}
use Rattle.verb_rules.specs.Parity.{odd_byte}
use Rattle.des_blocks.specs.Modes.{e, zero_block}
use Rattle.record_bodies.specs.Directory.{held_count}
use Rattle.record_bodies.specs.Entries.{Entry, directory, entry_label}
use Rattle.record_bodies.specs.Labels.{is_label}
use Rattle.record_bodies.specs.RecordBody.{ReadsEntry, ReadsWhat, kept}
use Rattle.record_bodies.specs.StoreStands.{entry_at}
use Rattle.cca_roles.specs.NameLaws.{label_short}
use Rattle.record_bodies.proofs.RankLaws.{count_bound}
use Rattle.key_tokens.specs.Denotes.{ClearKey, Denoted, MasterKey, MasterKeys, clear_of, denoted, denoted_or, denoted_under, is_token}
use Rattle.key_tokens.specs.Fields.{pattern_of_token, token_of}
use Rattle.key_tokens.specs.declared.key_token.Age.{Age}
use Rattle.key_tokens.specs.declared.key_token.Age.TheVariants as age
use Rattle.key_tokens.specs.declared.key_token.Asked.TheVariants as asked
use Rattle.key_tokens.specs.declared.key_token.Kind.{Kind}
use Rattle.key_tokens.specs.declared.key_token.Kind.TheVariants.{Internal, External}
use Rattle.key_parts.specs.Parts.{combined_key, first_key}
use Rattle.key_transport.specs.Generated.{generated_key, vector_for}
use Rattle.key_transport.specs.Tokens.{as_current, changed_token, closed_key}
use Rattle.key_transport.specs.declared.changing.Target.{Target}
use Rattle.key_transport.specs.declared.changing.Target.TheVariants.{Current, New}
use Rattle.mac_verbs.specs.Codes.{code_of, is_code}
use Rattle.master_registers.specs.Masters.{NewRegister, Empty, Partial, Full}
use Rattle.multi_encipher.specs.Bundles.{transport_bundle}
use Rattle.record_bodies.specs.Further.{changed_count}
use Rattle.line_service.specs.Lines.{newline}
use Rattle.line_service.specs.Replies.{Field, Hex, Text, Number, Reply, Refused, Done, field_name, field_text, fields_text, hex_field, number_field, ok_text, refusal, reply_limit, spelled, text_field, two_digits, written}
use Rattle.line_service.proofs.PartLemmas.{length-slice_range_le}
use Rattle.text_segments.specs.Chains.{chain_bytes, chain_checks, chain_of, first_chain, is_chain}
use Rattle.text_segments.specs.Segments.{chain_after, last_code, last_text, last_use, segment_text}
use Rattle.text_segments.specs.declared.chains.Chain.{Chain}
use Rattle.text_segments.specs.declared.modes.Mode.{Mode}
use Rattle.text_segments.specs.declared.modes.Mode.TheVariants as mode
use Rattle.verb_rules.specs.Keys.{keys_of, token_for}
use Rattle.verb_rules.specs.LengthChecks.{has_length, text_checks}
use Rattle.verb_rules.specs.declared.lengths.MacRule.{MacRule}
use Rattle.verb_rules.specs.declared.lengths.TextUse.{TextUse}
use Rattle.verb_rules.specs.declared.lengths.TextUse.TheVariants.{Decipher, Segment}
use Rattle.verb_script.specs.Grammar.{AreValues, FieldForm, IsValue, Request, Values, hex_digits, row_of, value_among, value_of}
use Rattle.verb_script.specs.declared.rows.RequestName.{RequestName}
use Rattle.verb_script.specs.declared.rows.RequestName.TheVariants.{Csnbktp, Csnbenc, CsnbencFirst, CsnbencMiddle, CsnbencLast, Csnbdec, CsnbdecFirst, CsnbdecMiddle, CsnbdecLast, Csnbmgn, CsnbmgnFirst, CsnbmgnMiddle, CsnbmgnLast, Csnbmvr, CsnbmvrFirst, CsnbmvrMiddle, CsnbmvrLast, Csnbkyt, Csnbcki, Csnbrng, CsnbkgnOp, CsnbkgnPair, CsnbkgnOut, Csnbkim, Csnbkex, Csnbpex, Csnbktc, CsnbkpiFirst, CsnbkpiMiddle, Csnbktr, Csnbkrw, Csnbkrr, Csnbkrl}
use Rattle.verb_script.specs.Named.{label_named}
use Rattle.verb_script.specs.Requests.{request_of}
use Rattle.verb_script.proofs.GrammarLaws.{request_of-sound, spelled_values}
use Rattle.cca_machine.specs.Act.{Effect, Show, Become, Write, ChangeLabels, class_name, code_segment_fields, delivered_with, effect, fields_after, kind_name, last_text_fields, new_name, or_act, or_empty, performed, segment_fields, shown_vector, token_fields, token_out, type1_of, type2_of, yes_or_no}
use Rattle.cca_machine.specs.Choices.{form_named, is_last_part, mac_length_named, mac_rule_named, pad_named, target_named, type_in}
use Rattle.cca_machine.specs.Keys.{any_old, cell_with, imported, key_bytes, key_in_field, key_in_text, key_named, key_of_label, key_of_request, key_of_token, or_no_clear, or_no_key, warning, what_at, what_in}
use Rattle.cca_machine.specs.Draws.{bytes_drawn, draw_of, length_in}
use Rattle.cca_machine.specs.Lines.{drawn_where, line_checks, line_outcome, outcome_by, taken_by}
use Rattle.cca_machine.specs.Listing.{ascending, beginning, first_label, has_rank, label_fields, nth_label, with_commas}
use Rattle.cca_machine.specs.Operands.{Operand, Operands, listed, operands, operands_of}
use Rattle.cca_machine.specs.State.{State, IsStoreOf}
use Rattle.cca_machine.specs.Verdict.{Questions, Refusal, bytes_in, chain_in, change_questions, code_rule, early_verdict, first_refusal, general_checks, last_questions, middle_questions, operand_checks, operand_questions, operands_verdict, or_refused, or_then, part_in, segment_questions, target_checks, text_size, verb_questions, verb_verdict, verdict}
use Rattle.cca_laws.proofs.CleanLaws.{first_of_both, second_of_both, true_of}
use Rattle.cca_laws.proofs.LengthLemmas.{chain_short, changed_short, closed_short, decimal_short, deciphered_short, either_short, enciphered_short, external_short, last_short, part_short, segment_short, take_short, token_short, value_short, vector_short}
use Rattle.cca_laws.proofs.LineCases.{of_verdict, permitted, refused_none}
use Rattle.verb_rules.proofs.LengthLemmas.{text_fits}

-- ---- fields

-- how many bytes the fields of a reply may take; what a line may have beyond them holds `OK`, the warning and the newline
abbrev room : ℕ
room = 69000

abbrev size_of : List Field → ℕ
size_of fields = length (fields_text fields)

name_length : (name : List ℕ) → length (field_name name) ≡ length name + 2
unfolding field_name
name_length name = omega (arith, length-append (codes " " ++ name) (codes "="))

hex_more : (name bytes : List ℕ) (fs : List Field) (k n m : ℕ) → length bytes ≤ k → size_of fs ≤ n → length name + 2 + 2 * k + n ≤ m → size_of (Hex name bytes ∷ fs) ≤ m
unfolding hex_field
hex_more name bytes fs k n m short more within =
    omega (
      arith,
      length-append (field_name name ++ encode_lower bytes) (fields_text fs),
      length-append (field_name name) (encode_lower bytes),
      name_length name,
      length-encode_with lower_digits bytes,
      short,
      more,
      within,
    )

text_more : (name bytes : List ℕ) (fs : List Field) (k n m : ℕ) → length bytes ≤ k → size_of fs ≤ n → length name + 2 + k + n ≤ m → size_of (Text name bytes ∷ fs) ≤ m
unfolding text_field
text_more name bytes fs k n m short more within =
    omega (arith, length-append (field_name name ++ bytes) (fields_text fs), length-append (field_name name) bytes, name_length name, short, more, within)

number_more : (name : List ℕ) (value : ℕ) (fs : List Field) (n m : ℕ) → size_of fs ≤ n → length name + 66 + n ≤ m → size_of (Number name value ∷ fs) ≤ m
unfolding number_field
number_more name value fs n m more within =
    omega (
      arith,
      length-append (field_name name ++ decimal value) (fields_text fs),
      length-append (field_name name) (decimal value),
      name_length name,
      decimal_short value,
      more,
      within,
    )

-- ---- what passed

passed : (b : Bool) (rule : ℕ) (others : Option ℕ) → cond (not b) (Some rule) others ≡ None → b ≡ true
passed true rule others is = refl
passed false rule others is = cc

-- the first rule that an operand breaks
abbrev broken_by : State → Operand → Option ℕ
broken_by s o = first_failing (operand_checks s o.text o.ask)

pass_each : (s : State) (os : Operands) → first_refusal (operand_questions s (listed os)) ≡ None
    → (broken_by s os.first ≡ None) × (broken_by s os.second ≡ None) × (broken_by s os.third ≡ None)
pass_each s os is =
    let third = or_refused (broken_by s os.third) os.third.name None in
    let second = or_refused (broken_by s os.second) os.second.name third in
    let a = refused_none (broken_by s os.first) os.first.name second is in
    let b = refused_none (broken_by s os.second) os.second.name third a.1 in
    let c = refused_none (broken_by s os.third) os.third.name None b.1 in
    (a.0, b.0, c.0)

-- a text that passes rule 23
text_short : (use_of : TextUse) (r : Request) → first_failing (text_checks use_of (text_size r)) ≡ None → length (bytes_in r (codes "text")) ≤ 4096
text_short use_of r is =
    omega (arith, text_fits use_of (text_size r) (passed (has_length use_of (text_size r)) 23 None is), value_short (value_of r (codes "text")))

few : (n : ℕ) → nat_le n 7 ≡ true → n ≤ 7
few n is = grind (arith, nat_tests, is)

-- the carried bytes of a chain that passes rule 36
carried_short : (bytes : List ℕ) → first_failing (chain_checks bytes) ≡ None → length (chain_of bytes).carried ≤ 7
carried_short bytes is =
    omega (
      arith,
      take_short (slice_index bytes 8) (drop 9 bytes),
      few (slice_index bytes 8) (and_parts (nat_le (slice_index bytes 8) 7) _ (passed (is_chain bytes) 36 None is)).0,
    )

-- ---- fields of so many digits

abbrev is_digits : ℕ → Values → Bool
is_digits n (hex_digits digits) = digits == n
is_digits n _ = false

abbrev are_digits : ℕ → List ℕ → List FieldForm → Bool
are_digits n name fs = list_all (λ (f : FieldForm). if bytes_eq f.name name then is_digits n f.values else true) fs

digits_short : (n : ℕ) (values : Values) (v : List ℕ) → T (is_digits n values) → IsValue values v → length v ≤ n
digits_short n (hex_digits digits) v is accepted =
    let same = true_of (digits == n) is in
    let long = (and_parts (length v == digits) _ accepted).0 in
    grind (arith, nat_tests, same, long)
digits_short n _ v is accepted = absurd is

value_digits : (fs : List FieldForm) (vs : List (List ℕ)) (name : List ℕ) (n : ℕ) → T (are_digits n name fs) → AreValues fs vs → length (value_among fs vs name) ≤ n
value_digits [] vs name n all are = omega arith
value_digits (f ∷ fs) [] name n all are = omega arith
value_digits (f ∷ fs) (v ∷ vs) name n all are =
    by_name (bytes_eq f.name name) (first_of_both _ (are_digits n name fs) all) (value_digits fs vs name n (second_of_both _ (are_digits n name fs) all) are.1)
  where
    by_name : (t : Bool) → T (if t then is_digits n f.values else true) → length (value_among fs vs name) ≤ n → length (if t then v else value_among fs vs name) ≤ n
    by_name true is others = digits_short n f.values v is are.0
    by_name false is others = others

start_digits : (name : RequestName) → T (are_digits 16 (codes "iv") (row_of name).fields)
start_digits Csnbktp = tt
start_digits _ = tt

-- the first vector of a chain, where a line spells the request
start_short : (line : List ℕ) (r : Request) → request_of line ≡ Some r → length (bytes_in r (codes "iv")) ≤ 8
start_short line r is =
    omega (
      arith,
      value_short (value_of r (codes "iv")),
      value_digits (row_of r.name).fields r.values (codes "iv") 16 (start_digits r.name) (spelled_values r line (request_of-sound line r is)),
    )

-- ---- keys

abbrev IsShortKey : Option Denoted → Type 0
IsShortKey None = ⊤
IsShortKey (Some d) = length d.clear.vector ≤ 16

under_short : (m : Option MasterKey) (a : Age) (bytes : List ℕ) (other : Option Denoted) → IsShortKey other → IsShortKey (denoted_or m a bytes other)
under_short None a bytes other more = more
under_short (Some master) a bytes other more = by_pattern (bytes_eq (pattern_of_token bytes) master.pattern)
  where
    by_pattern : (t : Bool) → IsShortKey (if t then Some (record { clear = clear_of master.key bytes; age = a }) else other)
    by_pattern true = length-slice_range_le bytes 32 48
    by_pattern false = more

denoted_short : (masters : MasterKeys) (bytes : List ℕ) → IsShortKey (denoted masters bytes)
unfolding denoted
denoted_short masters bytes = by_test (is_token asked.Internal bytes)
  where
    by_test : (t : Bool) → IsShortKey (if t then denoted_or masters.current age.Current bytes (denoted_or masters.former age.Old bytes None) else None)
    by_test true =
        under_short masters.current age.Current bytes (denoted_or masters.former age.Old bytes None) (under_short masters.former age.Old bytes None tt)
    by_test false = tt

kept_short : (masters : MasterKeys) (token : List ℕ) → IsShortKey (kept masters token)
unfolding kept
kept_short masters token = by_test (slice_index token 6 == 0xc0)
  where
    by_test : (t : Bool) → IsShortKey (if t then denoted masters token else None)
    by_test true = denoted_short masters token
    by_test false = tt

key_short : (o : Option Denoted) → IsShortKey o → length (or_no_key o).clear.vector ≤ 16
key_short None short = omega arith
key_short (Some d) short = short

imported_short : (transport : ClearKey) (bytes : List ℕ) → length (imported transport bytes).vector ≤ 16
unfolding denoted_under
imported_short transport bytes = by_test (is_token asked.External bytes)
  where
    by_test : (t : Bool) → length (or_no_clear (if t then Some (clear_of (transport_bundle transport.key) bytes) else None)).vector ≤ 16
    by_test true = length-slice_range_le bytes 32 48
    by_test false = omega arith

combined_short : (last : Bool) (clear : ClearKey) (part : List ℕ) → length clear.vector ≤ 16 → length (combined_key last clear part).vector ≤ 16
combined_short true clear part short = part_short clear.vector
combined_short false clear part short = short

-- ---- records

abbrev IsShortEntry : Option Entry → Type 0
IsShortEntry None = ⊤
IsShortEntry (Some e) = (length e.label ≤ 64) × IsShortKey e.what

what_short : (masters : MasterKeys) (bytes label : List ℕ) (what : Option Denoted) (ahead : Bool) (unused : Option (List ℕ))
    → ReadsWhat masters bytes label what ahead unused → IsShortKey what
what_short masters bytes label None ahead unused reads = tt
what_short masters bytes label (Some key) ahead unused reads = subst IsShortKey reads.is_kept (kept_short masters reads.token)

entry_short : (masters : MasterKeys) (bytes : List ℕ) (e : Option Entry) → ReadsEntry masters bytes e → IsShortEntry e
entry_short masters bytes None reads = tt
entry_short masters bytes (Some e) reads = (label_short e.label reads.0, what_short masters bytes e.label e.what e.ahead e.unused reads.1)

abbrev AreShortLabels : List (Option (List ℕ)) → Type 0
AreShortLabels [] = ⊤
AreShortLabels (None ∷ d) = AreShortLabels d
AreShortLabels (Some label ∷ d) = (length label ≤ 64) × AreShortLabels d

labels_short : (es : List (Option Entry)) → ((n : ℕ) → IsShortEntry (entry_at es n)) → AreShortLabels (directory es)
labels_short [] each = tt
labels_short (None ∷ es) each = labels_short es (λ n. each (suc n))
labels_short (Some e ∷ es) each = ((each 0).0, labels_short es (λ n. each (suc n)))

-- ---- the list of labels

abbrev AreShort : List (List ℕ) → Type 0
AreShort [] = ⊤
AreShort (l ∷ ls) = (length l ≤ 64) × AreShort ls

commas_short : (ls : List (List ℕ)) → AreShort ls → length (with_commas ls) ≤ 65 * length ls
commas_short [] are = omega arith
commas_short (l ∷ []) are = omega (arith, are.0)
commas_short (l ∷ next ∷ ls) are =
    omega (arith, length-append l (codes "," ++ with_commas (next ∷ ls)), commas_short (next ∷ ls) are.1, are.0)

filter_short : (p : List ℕ → Bool) (ls : List (List ℕ)) → AreShort ls → AreShort (filter p ls)
filter_short p [] are = tt
filter_short p (l ∷ ls) are = by_test (p l) (filter_short p ls are.1)
  where
    by_test : (t : Bool) → AreShort (filter p ls) → AreShort (cond t (l ∷ filter p ls) (filter p ls))
    by_test true rest = (are.0, rest)
    by_test false rest = rest

map_short : (f : ℕ → List ℕ) → ((n : ℕ) → length (f n) ≤ 64) → (ns : List ℕ) → AreShort (map f ns)
map_short f each [] = tt
map_short f each (n ∷ ns) = (each n, map_short f each ns)

first_short : (test : Option (List ℕ) → Bool) (d : List (Option (List ℕ))) → AreShortLabels d → length (first_label (filter test d)) ≤ 64
first_short test [] are = omega arith
first_short test (None ∷ d) are = by_test (test None) (first_short test d are)
  where
    by_test : (t : Bool) → length (first_label (filter test d)) ≤ 64 → length (first_label (cond t (None ∷ filter test d) (filter test d))) ≤ 64
    by_test true later = later
    by_test false later = later
first_short test (Some l ∷ d) are = by_test (test (Some l)) (first_short test d are.1)
  where
    by_test : (t : Bool) → length (first_label (filter test d)) ≤ 64 → length (first_label (cond t (Some l ∷ filter test d) (filter test d))) ≤ 64
    by_test true later = are.0
    by_test false later = later

beginning_count : (prefix : List ℕ) (d : List (Option (List ℕ))) → length (beginning prefix (ascending d)) ≤ length d
beginning_count prefix d =
    let p : List ℕ → Bool = λ label. starts_with nat_eq label prefix in
    omega (arith, length-filter p (ascending d), count_by-le-length p (ascending d), length-map-range_with_len (nth_label d) 0 (held_count d), count_bound d)

listing_short : (prefix : List ℕ) (d : List (Option (List ℕ))) → AreShortLabels d → length d ≤ 1024 → size_of (label_fields prefix d) ≤ room
unfolding label_fields
listing_short prefix d are most =
    let labels = beginning prefix (ascending d) in
    let each : AreShort labels = filter_short (λ label. starts_with nat_eq label prefix) (ascending d)
    (map_short (nth_label d) (λ n. first_short (has_rank n d) d are) (range_with_len 0 (held_count d))) in
    number_more (codes "count") (length labels) (Text (codes "labels") (with_commas labels) ∷ []) 66600 room
    (text_more (codes "labels") (with_commas labels) [] 66560 0 66600 (omega (arith, commas_short labels each, beginning_count prefix d, most)) (omega arith)
    (omega arith))
    (omega arith)

-- ---- the fields of each effect

abbrev IsShortEffect : Effect → Type 0
IsShortEffect (Show fields) = size_of fields ≤ room
IsShortEffect (Write label key fields) = size_of fields ≤ room
IsShortEffect _ = ⊤

-- one field in hex
one_hex : (name bytes : List ℕ) → length name ≤ 8 → length bytes ≤ 4111 → size_of (Hex name bytes ∷ []) ≤ room
one_hex name bytes called short = hex_more name bytes [] 4111 0 room short (omega arith) (omega (arith, called))

delivered_short : (s : State) (field : List ℕ) (to : Option (List ℕ)) (key : Denoted) (fields : List Field) → length field ≤ 8 → length key.clear.vector ≤ 16
    → first_failing (target_checks s to) ≡ None → size_of fields ≤ 200 → IsShortEffect (delivered_with s field to key fields)
delivered_short s field None key fields called vector asked more =
    hex_more field (token_for (keys_of s.registers) key) fields 64 200 room (token_short s.registers key vector) more (omega (arith, called))
delivered_short s field (Some label) key fields called vector asked more =
    text_more (codes "stored") label fields 64 200 room (label_short label (passed (is_label label) 6 _ asked)) more (omega arith)

answer_short : (b : Bool) → length (yes_or_no b) ≤ 3
answer_short true = omega arith
answer_short false = omega arith

match_short : (b : Bool) → size_of (Text (codes "match") (yes_or_no b) ∷ []) ≤ room
match_short b = text_more (codes "match") (yes_or_no b) [] 3 0 room (answer_short b) (omega arith) (omega arith)

kind_short : (k : Kind) → length (kind_name k) ≤ 8
kind_short Internal = omega arith
kind_short External = omega arith

class_short : (c : Class) → length (class_name c) ≤ 8
class_short Data = omega arith
class_short Cipher = omega arith
class_short Mac = omega arith
class_short Exporter = omega arith
class_short Importer = omega arith
class_short Other = omega arith

shown_short : (vector : List ℕ) → length vector ≤ 16 → length (shown_vector vector) ≤ 16
shown_short vector short = either_short (length_of vector == 8) (left_of vector) vector 16 (omega (arith, length-slice_range_le vector 0 8)) short

token_fields_short : (bytes : List ℕ) → size_of (token_fields (token_of bytes)) ≤ room
token_fields_short bytes =
    let t = token_of bytes in
    let pattern : List Field = Hex (codes "pattern") t.pattern ∷ [] in
    let vector : List Field = Hex (codes "vector") (shown_vector t.vector) ∷ pattern in
    let size : List Field = Number (codes "length") (length_of t.vector) ∷ vector in
    let class : List Field = Text (codes "class") (class_name (class_of t.vector)) ∷ size in
    text_more (codes "kind") (kind_name t.kind) class 8 400 room (kind_short t.kind)
    (text_more (codes "class") (class_name (class_of t.vector)) size 8 300 400 (class_short (class_of t.vector))
    (number_more (codes "length") (length_of t.vector) vector 200 300
    (hex_more (codes "vector") (shown_vector t.vector) pattern 16 100 200 (shown_short t.vector (length-slice_range_le bytes 32 48))
    (hex_more (codes "pattern") t.pattern [] 8 0 100 (length-slice_range_le bytes 8 16) (omega arith) (omega arith)) (omega arith)) (omega arith)) (omega arith))
    (omega arith)

named_length_short : (text : List ℕ) → mac_length_named text ≤ 8
named_length_short text = by_tests (bytes_eq text (codes "4")) (bytes_eq text (codes "6"))
  where
    by_tests : (four six : Bool) → (if four then 4 else if six then 6 else 8) ≤ 8
    by_tests true six = omega arith
    by_tests false true = omega arith
    by_tests false false = omega arith

code_short : (bytes text : List ℕ) → size_of (Hex (codes "mac") (take (mac_length_named text) bytes) ∷ []) ≤ room
code_short bytes text =
    one_hex (codes "mac") (take (mac_length_named text) bytes) (omega arith) (omega (arith, take_short (mac_length_named text) bytes, named_length_short text))

form_short : (form : RandomForm) (drawn : List ℕ) → length drawn ≤ 8 → length (in_form form drawn) ≤ 8
form_short Random drawn short = short
form_short Odd drawn short = omega (arith, length-map drawn odd_byte, short)
form_short Even drawn short = omega (arith, length-map drawn even_byte, short)

segment_fields_short : (clear : ClearKey) (m : Mode) (chain : Chain) (text : List ℕ) → length chain.block ≤ 8 → length chain.carried ≤ 7 → length text ≤ 4096
    → size_of (segment_fields clear m chain text) ≤ room
segment_fields_short clear m chain text block carried short =
    let after = chain_bytes (chain_after clear m chain text) in
    hex_more (codes "text") (segment_text clear m chain text) (Hex (codes "chain") after ∷ []) 4103 100 room
    (omega (arith, segment_short clear m chain text, carried, short))
    (hex_more (codes "chain") after [] 16 0 100 (chain_short clear m chain text block) (omega arith) (omega arith)) (omega arith)

code_segment_short : (clear : ClearKey) (rule : MacRule) (chain : Chain) (text : List ℕ) → length chain.block ≤ 8
    → size_of (code_segment_fields clear rule chain text) ≤ room
code_segment_short clear rule chain text block =
    one_hex (codes "chain") (chain_bytes (chain_after clear (mode.Mac rule) chain text)) (omega arith)
    (omega (arith, chain_short clear (mode.Mac rule) chain text block))

last_fields_short : (clear : ClearKey) (m : Mode) (chain : Chain) (padding : Pad) (text : List ℕ) → length chain.carried ≤ 7 → length text ≤ 4096
    → size_of (last_text_fields clear m chain padding text) ≤ room
last_fields_short clear m chain padding text carried short =
    one_hex (codes "text") (or_empty (last_text clear m chain padding text)) (omega arith)
    (omega (arith, last_short clear m chain padding text, carried, short))

module _ (s : State) (image : List ℕ) (stands : IsStoreOf s image) where
  place_short : (n : ℕ) → IsShortEntry (entry_at s.labels n)
  place_short n =
      elim (cases_lt n 1024) [
        | inl within ↦ entry_short (keys_of s.registers) (body image n) (entry_at s.labels n) (stands.reads n within)
        | inr past ↦ subst IsShortEntry (sym (get_or_past s.labels n None (omega (arith, stands.size, past)))) tt
      ]

  in_place : (e : Option Entry) → IsShortEntry e → IsShortKey (what_in e)
  in_place None short = tt
  in_place (Some e) short = short.1

  at_place : (o : Option ℕ) → IsShortKey (what_at s.labels o)
  at_place None = tt
  at_place (Some cell) = in_place (entry_at s.labels cell) (place_short cell)

  label_key_short : (label : List ℕ) → IsShortKey (key_of_label s label)
  label_key_short label = at_place (cell_with s label)

  named_short : (o : Option (List ℕ)) (text : List ℕ) → IsShortKey (key_named s o text)
  named_short None text = denoted_short (keys_of s.registers) (key_bytes text)
  named_short (Some label) text = label_key_short label

  request_key_short : (r : Request) → length (key_of_request s r).vector ≤ 16
  request_key_short r = key_short (key_in_text s (value_of r (codes "key"))) (named_short (label_named (value_of r (codes "key"))) (value_of r (codes "key")))

  key_of_token_short : (bytes : List ℕ) → length (or_no_key (key_of_token s bytes)).clear.vector ≤ 16
  key_of_token_short bytes = key_short (key_of_token s bytes) (denoted_short (keys_of s.registers) bytes)

  first_segment : (m : Mode) (r : Request) → length (bytes_in r (codes "iv")) ≤ 8 → first_refusal (segment_questions (text_size r)) ≡ None
      → size_of (segment_fields (key_of_request s r) m (first_chain (bytes_in r (codes "iv"))) (bytes_in r (codes "text"))) ≤ room
  first_segment m r start is =
      segment_fields_short (key_of_request s r) m (first_chain (bytes_in r (codes "iv"))) (bytes_in r (codes "text")) start (omega arith)
      (text_short Segment r (refused_none _ _ _ is).0)

  middle_segment : (m : Mode) (r : Request) → first_refusal (middle_questions r) ≡ None
      → size_of (segment_fields (key_of_request s r) m (chain_in r) (bytes_in r (codes "text"))) ≤ room
  middle_segment m r is =
      let asked = refused_none _ _ _ is in
      segment_fields_short (key_of_request s r) m (chain_in r) (bytes_in r (codes "text")) (take_short 8 (bytes_in r (codes "chain")))
      (carried_short (bytes_in r (codes "chain")) asked.0) (text_short Segment r (refused_none _ _ _ asked.1).0)

  last_segment : (m : Mode) (r : Request) → first_refusal (last_questions s m r) ≡ None
      → size_of (last_text_fields (key_of_request s r) m (chain_in r) (pad_named (value_of r (codes "pad"))) (bytes_in r (codes "text"))) ≤ room
  last_segment m r is =
      let asked = refused_none _ _ _ is in
      let padding = pad_named (value_of r (codes "pad")) in
      last_fields_short (key_of_request s r) m (chain_in r) padding (bytes_in r (codes "text")) (carried_short (bytes_in r (codes "chain")) asked.0)
      (text_short (last_use m padding (length (chain_in r).carried)) r (refused_none _ _ _ asked.1).0)

  code_segment : (r : Request) (chain : Chain) → length chain.block ≤ 8
      → size_of (code_segment_fields (key_of_request s r) (code_rule r) chain (bytes_in r (codes "text"))) ≤ room
  code_segment r chain block = code_segment_short (key_of_request s r) (code_rule r) chain (bytes_in r (codes "text")) block

  -- a key goes where the field `to` says
  goes : (r : Request) (field : List ℕ) (key : Denoted) (fields : List Field) → length field ≤ 8 → length key.clear.vector ≤ 16
      → first_failing (target_checks s (label_named (value_of r (codes "to")))) ≡ None → size_of fields ≤ 200
      → IsShortEffect (delivered_with s field (label_named (value_of r (codes "to"))) key fields)
  goes r field key fields called vector asked more = delivered_short s field (label_named (value_of r (codes "to"))) key fields called vector asked more

  token_out_short : (r : Request) (field : List ℕ) (clear : ClearKey) → length clear.vector ≤ 16 → length (token_out s r field clear) ≤ 64
  token_out_short r field clear vector = external_short (key_in_field s r field).key clear vector

  one_token_out : (r : Request) (field : List ℕ) (clear : ClearKey) → length clear.vector ≤ 16
      → size_of (Hex (codes "token") (token_out s r field clear) ∷ []) ≤ room
  one_token_out r field clear vector =
      one_hex (codes "token") (token_out s r field clear) (omega arith) (omega (arith, token_out_short r field clear vector))

  second_token_out : (r : Request) (clear : ClearKey) → length clear.vector ≤ 16
      → size_of (Hex (codes "token2") (token_out s r (codes "transport2") clear) ∷ []) ≤ 200
  second_token_out r clear vector =
      hex_more (codes "token2") (token_out s r (codes "transport2") clear) [] 64 0 200 (token_out_short r (codes "transport2") clear vector) (omega arith) (omega arith)

  fields_short : (drawn ahead : List ℕ) (name : RequestName) (r : Request) → length drawn ≤ bytes_drawn (draw_of name r) ahead → length (bytes_in r (codes "iv")) ≤ 8
      → first_refusal (operand_questions s (listed (operands_of name r))) ≡ None → first_refusal (verb_questions s name r) ≡ None
      → IsShortEffect (effect s drawn name r)
  fields_short drawn ahead Csnbktp r drawn_few start ops verb = token_fields_short (bytes_in r (codes "token"))
  fields_short drawn ahead Csnbenc r drawn_few start ops verb =
      let padding = pad_named (value_of r (codes "pad")) in
      let text = bytes_in r (codes "text") in
      one_hex (codes "text") (enciphered_text (key_of_request s r) (bytes_in r (codes "iv")) padding text) (omega arith)
      (omega (arith, enciphered_short (key_of_request s r) (bytes_in r (codes "iv")) padding text, text_short (enciphering padding) r (refused_none _ _ _ verb).0))
  fields_short drawn ahead CsnbencFirst r drawn_few start ops verb = first_segment mode.Encipher r start verb
  fields_short drawn ahead CsnbencMiddle r drawn_few start ops verb = middle_segment mode.Encipher r verb
  fields_short drawn ahead CsnbencLast r drawn_few start ops verb = last_segment mode.Encipher r verb
  fields_short drawn ahead Csnbdec r drawn_few start ops verb =
      let padding = pad_named (value_of r (codes "pad")) in
      let text = bytes_in r (codes "text") in
      one_hex (codes "text") (or_empty (deciphered_text (key_of_request s r) (bytes_in r (codes "iv")) padding text)) (omega arith)
      (omega (arith, deciphered_short (key_of_request s r) (bytes_in r (codes "iv")) padding text, text_short Decipher r (refused_none _ _ _ verb).0))
  fields_short drawn ahead CsnbdecFirst r drawn_few start ops verb = first_segment mode.Decipher r start verb
  fields_short drawn ahead CsnbdecMiddle r drawn_few start ops verb = middle_segment mode.Decipher r verb
  fields_short drawn ahead CsnbdecLast r drawn_few start ops verb = last_segment mode.Decipher r verb
  fields_short drawn ahead Csnbmgn r drawn_few start ops verb =
      code_short (code_of (mac_rule_named (value_of r (codes "rule"))) (key_of_request s r) (bytes_in r (codes "text"))) (value_of r (codes "length"))
  fields_short drawn ahead CsnbmgnFirst r drawn_few start ops verb = code_segment r (first_chain zero_block) (omega arith)
  fields_short drawn ahead CsnbmgnMiddle r drawn_few start ops verb = code_segment r (chain_in r) (take_short 8 (bytes_in r (codes "chain")))
  fields_short drawn ahead CsnbmgnLast r drawn_few start ops verb =
      code_short (last_code (key_of_request s r) (code_rule r) (chain_in r) (bytes_in r (codes "text"))) (value_of r (codes "length"))
  fields_short drawn ahead Csnbmvr r drawn_few start ops verb =
      match_short (is_code (mac_rule_named (value_of r (codes "rule"))) (key_of_request s r) (bytes_in r (codes "text")) (bytes_in r (codes "mac")))
  fields_short drawn ahead CsnbmvrFirst r drawn_few start ops verb = code_segment r (first_chain zero_block) (omega arith)
  fields_short drawn ahead CsnbmvrMiddle r drawn_few start ops verb = code_segment r (chain_in r) (take_short 8 (bytes_in r (codes "chain")))
  fields_short drawn ahead CsnbmvrLast r drawn_few start ops verb =
      match_short (bytes_eq (bytes_in r (codes "mac"))
      (take (length (bytes_in r (codes "mac"))) (last_code (key_of_request s r) (code_rule r) (chain_in r) (bytes_in r (codes "text")))))
  fields_short drawn ahead Csnbkyt r drawn_few start ops verb =
      one_hex (codes "value") (test_value (key_of_request s r)) (omega arith) (omega (arith, take_short 4 (e (key_of_request s r).key zero_block)))
  fields_short drawn ahead Csnbcki r drawn_few start ops verb =
      goes r (codes "token") (imported_key (bytes_in r (codes "clear"))) [] (omega arith) (omega arith) (pass_each s (operands_of Csnbcki r) ops).0 (omega arith)
  fields_short drawn ahead Csnbrng r drawn_few start ops verb =
      let form = form_named (value_of r (codes "form")) in
      one_hex (codes "random") (in_form form drawn) (omega arith) (omega (arith, form_short form drawn drawn_few))
  fields_short drawn ahead CsnbkgnOp r drawn_few start ops verb =
      goes r (codes "token1") (as_current (generated_key (type1_of r) (length_in r) drawn)) [] (omega arith) (vector_short (type1_of r) (length_in r))
      (pass_each s (operands_of CsnbkgnOp r) ops).0 (omega arith)
  fields_short drawn ahead CsnbkgnPair r drawn_few start ops verb =
      let second = generated_key (type2_of r) (length_in r) drawn in
      goes r (codes "token1") (as_current (generated_key (type1_of r) (length_in r) drawn)) (Hex (codes "token2") (token_out s r (codes "transport2") second) ∷ []) (omega arith)
      (vector_short (type1_of r) (length_in r)) (pass_each s (operands_of CsnbkgnPair r) ops).1
      (second_token_out r second (vector_short (type2_of r) (length_in r)))
  fields_short drawn ahead CsnbkgnOut r drawn_few start ops verb =
      let first = generated_key (type1_of r) (length_in r) drawn in
      let second = generated_key (type2_of r) (length_in r) drawn in
      hex_more (codes "token1") (token_out s r (codes "transport1") first) (Hex (codes "token2") (token_out s r (codes "transport2") second) ∷ []) 64 200 room
      (token_out_short r (codes "transport1") first (vector_short (type1_of r) (length_in r)))
      (second_token_out r second (vector_short (type2_of r) (length_in r))) (omega arith)
  fields_short drawn ahead Csnbkim r drawn_few start ops verb =
      let clear = imported (key_in_field s r (codes "transport")) (bytes_in r (codes "token")) in
      goes r (codes "token") (as_current clear) [] (omega arith) (imported_short (key_in_field s r (codes "transport")) (bytes_in r (codes "token")))
      (pass_each s (operands_of Csnbkim r) ops).2 (omega arith)
  fields_short drawn ahead Csnbkex r drawn_few start ops verb = one_token_out r (codes "transport") (key_of_request s r) (request_key_short r)
  fields_short drawn ahead Csnbpex r drawn_few start ops verb =
      goes r (codes "token") (as_current (closed_key (key_of_request s r))) [] (omega arith) (closed_short (key_of_request s r).vector (request_key_short r))
      (pass_each s (operands_of Csnbpex r) ops).1 (omega arith)
  fields_short drawn ahead Csnbktc r drawn_few start ops verb =
      let target = target_named (value_of r (codes "rule")) in
      let clear = (or_no_key (key_of_token s (bytes_in r (codes "token")))).clear in
      one_hex (codes "token") (changed_token s.registers target clear) (omega arith)
      (omega (arith, changed_short s.registers target clear (key_of_token_short (bytes_in r (codes "token")))))
  fields_short drawn ahead CsnbkpiFirst r drawn_few start ops verb =
      let kind = type_in (value_of r (codes "type")) in
      goes r (codes "token") (as_current (first_key kind (part_in r))) [] (omega arith) (part_short (vector_for kind (length (part_in r))))
      (pass_each s (operands_of CsnbkpiFirst r) ops).0 (omega arith)
  fields_short drawn ahead CsnbkpiMiddle r drawn_few start ops verb =
      let last = is_last_part (value_of r (codes "rule")) in
      goes r (codes "token") (as_current (combined_key last (key_of_request s r) (part_in r))) [] (omega arith)
      (combined_short last (key_of_request s r) (part_in r) (request_key_short r)) (pass_each s (operands_of CsnbkpiMiddle r) ops).1 (omega arith)
  fields_short drawn ahead Csnbktr r drawn_few start ops verb =
      let clear = imported (key_in_field s r (codes "transport1")) (bytes_in r (codes "token")) in
      one_token_out r (codes "transport2") clear (imported_short (key_in_field s r (codes "transport1")) (bytes_in r (codes "token")))
  fields_short drawn ahead Csnbkrw r drawn_few start ops verb = omega arith
  fields_short drawn ahead Csnbkrr r drawn_few start ops verb =
      let key = or_no_key (key_of_label s (value_of r (codes "label"))) in
      one_hex (codes "token") (token_for (keys_of s.registers) key) (omega arith)
      (omega (arith, token_short s.registers key (key_short (key_of_label s (value_of r (codes "label"))) (label_key_short (value_of r (codes "label"))))))
  fields_short drawn ahead Csnbkrl r drawn_few start ops verb =
      listing_short (value_of r (codes "prefix")) (directory s.labels) (labels_short s.labels place_short) (omega (arith, length-map s.labels entry_label, stands.size))
  fields_short drawn ahead _ r drawn_few start ops verb = tt

new_short : (new : NewRegister) → length (new_name new) ≤ 7
new_short Empty = omega arith
new_short (Partial bytes) = omega arith
new_short (Full bytes) = omega arith

after_short : (s : State) (e : Effect) → IsShortEffect e → size_of (fields_after s e) ≤ room
after_short s (Show fields) short = short
after_short s (Become m labels) short = text_more (codes "new") (new_name m.coming) [] 7 0 room (new_short m.coming) (omega arith) (omega arith)
after_short s (Write label key fields) short = short
after_short s (ChangeLabels a) short = number_more (codes "changed") (changed_count a s.labels) [] 0 room (omega arith) (omega arith)
after_short s _ short = omega arith

warning_short : (b : Bool) → size_of (warning b) ≤ 100
warning_short true = text_more (codes "warn") (codes "old") [] 3 0 100 (omega arith) (omega arith) (omega arith)
warning_short false = omega arith

-- ---- the operand of a refusal

abbrev is_short : List ℕ → Bool
is_short name = nat_le (length name) 100

abbrev IsShortRefusal : Option Refusal → Type 0
IsShortRefusal None = ⊤
IsShortRefusal (Some r) = T (is_short r.operand)

abbrev are_short : List Questions → Bool
are_short qs = list_all (λ (q : Questions). is_short q.operand) qs

refused_short : (o : Option ℕ) (operand : List ℕ) (others : Option Refusal) → T (is_short operand) → IsShortRefusal others → IsShortRefusal (or_refused o operand others)
refused_short None operand others name more = more
refused_short (Some rule) operand others name more = name

questions_short : (qs : List Questions) → T (are_short qs) → IsShortRefusal (first_refusal qs)
questions_short [] short = tt
questions_short (q ∷ qs) short =
    refused_short (first_failing q.checks) q.operand (first_refusal qs) (first_of_both (is_short q.operand) (are_short qs) short)
    (questions_short qs (second_of_both (is_short q.operand) (are_short qs) short))

operands_short : (s : State) (name : RequestName) (r : Request) → T (are_short (operand_questions s (listed (operands_of name r))))
operands_short s Csnbktp r = tt
operands_short s _ r = tt

target_questions_short : (s : State) (t : Target) → T (are_short (change_questions s t))
target_questions_short s Current = tt
target_questions_short s New = tt

verb_short : (s : State) (name : RequestName) (r : Request) → T (are_short (verb_questions s name r))
verb_short s Csnbktc r = target_questions_short s (target_named (value_of r (codes "rule")))
verb_short s _ r = tt

then_short : (a b : Option Refusal) → IsShortRefusal a → IsShortRefusal b → IsShortRefusal (or_then a b)
then_short None b first second = second
then_short (Some r) b first second = first

verdict_short : (s : State) (random : List ℕ) (r : Request) → IsShortRefusal (verdict s random r)
verdict_short s random r =
    of_verdict IsShortRefusal tt s random r
    (refused_short (first_failing (general_checks s r)) (codes "-") (or_then (operands_verdict s r) (verb_verdict s r)) tt
    (then_short (operands_verdict s r) (verb_verdict s r)
    (questions_short (operand_questions s (listed (operands r))) (operands_short s r.name r))
    (questions_short (verb_questions s r.name r) (verb_short s r.name r))))

-- ---- each reply

abbrev IsShortReply : Reply → Type 0
IsShortReply (Refused rule operand) = T (is_short operand)
IsShortReply (Done fields) = size_of fields ≤ room + 100

hundred : (n : ℕ) → nat_le n 100 ≡ true → n ≤ 100
hundred n is = grind (arith, nat_tests, is)

reply_short : (reply : Reply) → IsShortReply reply → length (spelled reply) ≤ reply_limit
unfolding refusal ok_text
reply_short (Refused rule operand) short =
    omega (
      arith,
      length-append (refusal rule operand) (newline ∷ []),
      length-append (codes "NO " ++ two_digits rule ++ codes " ") operand,
      hundred (length operand) (true_of (is_short operand) short),
    )
reply_short (Done fields) short = omega (arith, length-append (written fields) (newline ∷ []), short)

both_short : (fs gs : List Field) → size_of fs ≤ room → size_of gs ≤ 100 → size_of (fs ++ gs) ≤ room + 100
both_short fs gs first second =
    let parts : size_of (fs ++ gs) ≡ size_of fs + size_of gs = ap length (flat_map-append field_text fs gs) ∙ length-append (fields_text fs) (fields_text gs) in
    omega (arith, parts, first, second)

some_drawn : (v : Option Refusal) (count : ℕ) → drawn_where v count ≤ count
some_drawn None count = omega arith
some_drawn (Some refused) count = omega arith

module _ (s : State) (image : List ℕ) (stands : IsStoreOf s image) where
  by_verdict : (drawn ahead : List ℕ) (r : Request) (v : Option Refusal) → verdict s drawn r ≡ v → IsShortRefusal v
      → length drawn ≤ bytes_drawn (draw_of r.name r) ahead → length (bytes_in r (codes "iv")) ≤ 8 → IsShortReply (or_act v s drawn r).reply
  by_verdict drawn ahead r (Some refused) is short few start = short
  by_verdict drawn ahead r None is short few start =
      let p = permitted s drawn r is in
      both_short (fields_after s (effect s drawn r.name r)) (warning (any_old s (listed (operands r))))
      (after_short s (effect s drawn r.name r) (fields_short s image stands drawn ahead r.name r few start p.operands p.verb)) (warning_short (any_old s (listed (operands r))))

  by_checks : (random line : List ℕ) (o : Option ℕ) (q : Option Request) → request_of line ≡ q → IsShortReply (outcome_by o s random q).reply
  unfolding performed
  by_checks random line (Some rule) q is = tt
  by_checks random line None None is = tt
  by_checks random line None (Some r) is =
      let count : ℕ = taken_by s random r in
      let drawn : List ℕ = take count random in
      let few : length drawn ≤ bytes_drawn (draw_of r.name r) random =
      omega (arith, take_short count random, some_drawn (early_verdict s r) (bytes_drawn (draw_of r.name r) random)) in
      by_verdict drawn random r (verdict s drawn r) refl (verdict_short s drawn r) few (start_short line r is)

  short_reply : (random line : List ℕ) → length (spelled (line_outcome s random line).reply) ≤ reply_limit
  unfolding line_outcome
  short_reply random line =
      reply_short (line_outcome s random line).reply (by_checks random line (first_failing (line_checks line (request_of line))) (request_of line) refl)

-- a reply line has at most 69,632 bytes
pub reply_is_short : (s : State) (image random line : List ℕ) → IsStoreOf s image → length (spelled (line_outcome s random line).reply) ≤ reply_limit
reply_is_short s image random line stands = short_reply s image stands random line
