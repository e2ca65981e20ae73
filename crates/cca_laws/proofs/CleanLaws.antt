-- No reply has a newline but its last byte.
use Rattle.std.proofs.Common.{◌≡◌, ◌≢◌, ℕ, zero, suc, ◌+◌, ◌/◌, ◌%◌, Bool, true, false, List, [], ◌∷◌, ◌++◌, get_or, refl, sym, subst, codes, T, ◌==◌, not, ne_eqb, arith, decimal}
use Rattle.std.specs.Prelude.{◌&&◌, nat_lt, if◌then◌else◌}
use Rattle.std.specs.Fmt.{digits, digits_onto, digit_glyph}
use Rattle.std.specs.List.{list_all}
use Rattle.std.proofs.lemmas.List.Folds.{list_all-append}
use Rattle.std.proofs.lemmas.List.Sums.{AllPass-from_list_all}
use Rattle.hex.specs.Hex.{encode_with, lower_digits}
use Rattle.line_service.specs.Lines.{newline, NoNewline}
use Rattle.line_service.specs.Replies.{Field, Hex, Text, Number, Reply, Refused, Done, field_name, field_text, fields_text, hex_field, number_field, ok_text, refusal, spelled, text_field, two_digits, written}
use Rattle.cca_laws.specs.ReplyLines.{IsOneLine}

-- ---- tests

pub both : (a b : Bool) → T a → T b → T (a && b)
both true b first second = second
both false b first second = absurd first

pub first_of_both : (a b : Bool) → T (a && b) → T a
first_of_both true b is = tt
first_of_both false b is = absurd is

pub second_of_both : (a b : Bool) → T (a && b) → T b
second_of_both true b is = is
second_of_both false b is = absurd is

pub truth : (b : Bool) → b ≡ true → T b
truth b is = subst T (sym is) tt

pub true_of : (b : Bool) → T b → b ≡ true
true_of true is = refl
true_of false is = absurd is

-- ---- bytes

abbrev pub is_clean_byte : ℕ → Bool
is_clean_byte c = not (c == 10)

abbrev pub is_clean : List ℕ → Bool
is_clean bytes = list_all is_clean_byte bytes

pub byte_clean : (c : ℕ) → (c ≡ 10 → ⊥) → T (is_clean_byte c)
byte_clean c other = subst (λ b. T (not b)) (sym (ne_eqb c 10 other)) tt

pub append_clean : (xs ys : List ℕ) → T (is_clean xs) → T (is_clean ys) → T (is_clean (xs ++ ys))
append_clean xs ys first second = subst T (sym (list_all-append is_clean_byte xs ys)) (both (is_clean xs) (is_clean ys) first second)

pub clean_is : (bytes : List ℕ) → T (is_clean bytes) → NoNewline bytes
clean_is bytes clean k d within = by_byte (get_or bytes k d) (AllPass-from_list_all is_clean_byte bytes (true_of (is_clean bytes) clean) k d within)
  where
    by_byte : (c : ℕ) → is_clean_byte c ≡ true → c ≢ newline
    by_byte c is same = subst (λ x. T (is_clean_byte x)) same (truth (is_clean_byte c) is)

-- ---- digits

element_clean : (xs : List ℕ) (k : ℕ) → T (is_clean xs) → T (is_clean_byte (get_or xs k 0))
element_clean [] k clean = tt
element_clean (x ∷ xs) zero clean = first_of_both (is_clean_byte x) (is_clean xs) clean
element_clean (x ∷ xs) (suc k) clean = element_clean xs k (second_of_both (is_clean_byte x) (is_clean xs) clean)

pub hex_clean : (bytes : List ℕ) → T (is_clean (encode_with lower_digits bytes))
unfolding encode_with
hex_clean [] = tt
hex_clean (b ∷ rest) =
    both (is_clean_byte (get_or lower_digits (b / 16) 0)) _ (element_clean lower_digits (b / 16) tt)
    (both (is_clean_byte (get_or lower_digits (b % 16) 0)) _ (element_clean lower_digits (b % 16) tt) (hex_clean rest))

glyph_clean : (d : ℕ) → T (is_clean_byte (digit_glyph false d))
glyph_clean d = by_test (nat_lt d 10)
  where
    by_test : (t : Bool) → T (is_clean_byte (if t then 48 + d else 87 + d))
    by_test true = byte_clean (48 + d) (λ is. omega (arith, is))
    by_test false = byte_clean (87 + d) (λ is. omega (arith, is))

either_clean : (t : Bool) (one other : List ℕ) → T (is_clean one) → T (is_clean other) → T (is_clean (if t then one else other))
either_clean true one other first second = first
either_clean false one other first second = second

onto_clean : (k n : ℕ) (acc : List ℕ) → T (is_clean acc) → T (is_clean (digits_onto k 10 false n acc))
onto_clean zero n acc clean = clean
onto_clean (suc k) n acc clean =
    let more : T (is_clean (digit_glyph false (n % 10) ∷ acc)) = both (is_clean_byte (digit_glyph false (n % 10))) (is_clean acc) (glyph_clean (n % 10)) clean in
    either_clean (n / 10 == 0) (digit_glyph false (n % 10) ∷ acc) (digits_onto k 10 false (n / 10) (digit_glyph false (n % 10) ∷ acc)) more
    (onto_clean k (n / 10) (digit_glyph false (n % 10) ∷ acc) more)

decimal_clean : (n : ℕ) → T (is_clean (decimal n))
unfolding digits
decimal_clean n = onto_clean 64 n [] tt

-- ---- fields

abbrev pub is_clean_field : Field → Bool
is_clean_field (Hex name bytes) = is_clean name
is_clean_field (Text name bytes) = is_clean name && is_clean bytes
is_clean_field (Number name value) = is_clean name

abbrev pub are_clean : List Field → Bool
are_clean fields = list_all is_clean_field fields

name_clean : (name : List ℕ) → T (is_clean name) → T (is_clean (field_name name))
unfolding field_name
name_clean name clean = append_clean (codes " " ++ name) (codes "=") clean tt

field_clean : (f : Field) → T (is_clean_field f) → T (is_clean (field_text f))
unfolding hex_field text_field number_field
field_clean (Hex name bytes) clean = append_clean (field_name name) _ (name_clean name clean) (hex_clean bytes)
field_clean (Text name bytes) clean =
    append_clean (field_name name) bytes (name_clean name (first_of_both (is_clean name) (is_clean bytes) clean)) (second_of_both (is_clean name) (is_clean bytes) clean)
field_clean (Number name value) clean = append_clean (field_name name) (decimal value) (name_clean name clean) (decimal_clean value)

fields_clean : (fields : List Field) → T (are_clean fields) → T (is_clean (fields_text fields))
fields_clean [] clean = tt
fields_clean (f ∷ fs) clean =
    append_clean (field_text f) (fields_text fs) (field_clean f (first_of_both (is_clean_field f) (are_clean fs) clean))
    (fields_clean fs (second_of_both (is_clean_field f) (are_clean fs) clean))

pub are_clean-append : (fs gs : List Field) → T (are_clean fs) → T (are_clean gs) → T (are_clean (fs ++ gs))
are_clean-append fs gs first second = subst T (sym (list_all-append is_clean_field fs gs)) (both (are_clean fs) (are_clean gs) first second)

-- ---- replies

abbrev pub is_clean_reply : Reply → Bool
is_clean_reply (Refused rule operand) = is_clean operand
is_clean_reply (Done fields) = are_clean fields

two_clean : (n : ℕ) → T (is_clean (two_digits n))
two_clean n = both (is_clean_byte (48 + n / 10)) _ (byte_clean (48 + n / 10) (λ is. omega (arith, is)))
    (both (is_clean_byte (48 + n % 10)) true (byte_clean (48 + n % 10) (λ is. omega (arith, is))) tt)

refusal_clean : (rule : ℕ) (operand : List ℕ) → T (is_clean operand) → T (is_clean (refusal rule operand))
unfolding refusal
refusal_clean rule operand clean =
    append_clean (codes "NO " ++ two_digits rule ++ codes " ") operand
    (append_clean (codes "NO " ++ two_digits rule) (codes " ") (append_clean (codes "NO ") (two_digits rule) tt (two_clean rule)) tt) clean

written_clean : (fields : List Field) → T (are_clean fields) → T (is_clean (written fields))
unfolding ok_text
written_clean fields clean = append_clean (codes "OK") (fields_text fields) tt (fields_clean fields clean)

-- a reply whose names and texts have no newline is one line
pub one_line : (reply : Reply) → T (is_clean_reply reply) → IsOneLine (spelled reply)
one_line (Refused rule operand) clean = record { text = refusal rule operand; whole = refl; clean = clean_is (refusal rule operand) (refusal_clean rule operand clean) }
one_line (Done fields) clean = record { text = written fields; whole = refl; clean = clean_is (written fields) (written_clean fields clean) }
