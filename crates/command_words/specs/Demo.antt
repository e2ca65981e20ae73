-- The lines that `demo N` serves, and the summary that it sends.
use Rattle.std.specs.Prelude.{◌≡◌, ◌⊎◌, ◌≤◌, ◌==◌, ◌+◌, ◌-◌, ◌/◌, ◌%◌, ◌^◌, ℕ, zero, suc, min, Bool, false, List, [], ◌∷◌, ◌++◌, codes, decimal, length, drop, take, count_by, flat_map, if◌then◌else◌}
use Rattle.std.specs.Fmt.{digit_glyph}
use Rattle.std.specs.Str.{bytes_eq}
use Rattle.line_service.specs.Lines.{newline, lines}
use Rattle.line_service.specs.Replies.{number_field}

-- ---- the words

-- the words are `demo N`, with N from 1 to 1,000 in decimal digits without a leading zero
pub record IsDemo (n : ℕ) (words : List (List ℕ)) : Type 0 where
  pub words_are : words ≡ codes "demo" ∷ decimal n ∷ []
  pub some : 1 ≤ n
  pub few : n ≤ 1000

-- the words are a command: the one word `run`, or `demo N`
abbrev pub IsCommandLine : List (List ℕ) → Type 0
IsCommandLine words = (words ≡ codes "run" ∷ []) ⊎ ((n : ℕ) × IsDemo n words)

-- ---- the lines

-- a number below 10,000 in four decimal digits
abbrev pub four_digits : ℕ → List ℕ
four_digits i = (48 + i / 1000 % 10) ∷ (48 + i / 100 % 10) ∷ (48 + i / 10 % 10) ∷ (48 + i % 10) ∷ []

-- a number below 65,536 in four hexadecimal digits
abbrev pub four_hex_digits : ℕ → List ℕ
four_hex_digits i =
    digit_glyph false (i / 4096 % 16) ∷ digit_glyph false (i / 256 % 16)
    ∷ digit_glyph false (i / 16 % 16) ∷ digit_glyph false (i % 16) ∷ []

-- a master key is entered in two parts, the second all zero, and becomes the current one
abbrev pub key_set : List ℕ → List (List ℕ)
key_set part =
    (codes "CSNBMKP role=DEFAULT action=FIRST part=" ++ part)
    ∷ codes "CSNBMKP role=DEFAULT action=LAST part=000000000000000000000000000000000000000000000000"
    ∷ codes "CSNBMKP role=DEFAULT action=SET"
    ∷ []

-- a label is made, and the clear key of eight bytes that is its number goes into its record
abbrev pub key_made : ℕ → List (List ℕ)
key_made i =
    (codes "CSNBKRC role=DEFAULT label=KEY." ++ four_digits i)
    ∷ (codes "CSNBCKI role=DEFAULT clear=000000000000"
    ++ (four_hex_digits i ++ (codes " to=L:KEY." ++ four_digits i)))
    ∷ []

-- a zero block is enciphered under the key of a label
abbrev pub key_used : ℕ → List (List ℕ)
key_used i =
    (codes "CSNBENC role=DEFAULT key=L:KEY."
    ++ (four_digits i ++ codes " iv=0000000000000000 pad=NONE text=0000000000000000"))
    ∷ []

-- the key of a label is tested
abbrev pub key_tested : ℕ → List (List ℕ)
key_tested i = (codes "CSNBKYT role=DEFAULT key=L:KEY." ++ four_digits i) ∷ []

-- every other label is deleted
abbrev pub key_deleted : ℕ → List (List ℕ)
key_deleted i =
    if i % 2 == 0 then (codes "CSNBKRD role=DEFAULT label=KEY." ++ four_digits i) ∷ [] else []

-- the lines for the numbers 0, 1 and so on, so many of them
abbrev pub for_each : (ℕ → List (List ℕ)) → ℕ → List (List ℕ)
for_each of zero = []
for_each of (suc n) = for_each of n ++ of n

abbrev pub first_part : List ℕ
first_part = codes "0102030405060708090a0b0c0d0e0f101112131415161718"

abbrev pub second_part : List ℕ
second_part = codes "ffffffffffffffffffffffffffffffffffffffffffffffff"

-- Keys are made and used under one master key, then enciphered anew under another, tested and deleted. The last line
-- is refused, since no new master key was entered.
unfoldable pub demo_lines : ℕ → List (List ℕ)
demo_lines n =
    key_set first_part
    ++ (for_each key_made n
    ++ (for_each key_used n
    ++ (key_set second_part
    ++ (key_tested 0
    ++ ((codes "REENCIPHER role=DEFAULT" ∷ [])
    ++ (for_each key_tested n
    ++ (for_each key_deleted n
    ++ (codes "CSNBKRL role=DEFAULT prefix=" ∷ codes "CSNBMKP role=DEFAULT action=SET" ∷ []))))))))

-- lines, each with its newline
unfoldable pub joined : List (List ℕ) → List ℕ
joined ls = flat_map (λ (line : List ℕ). line ++ newline ∷ []) ls

abbrev pub demo_text : ℕ → List ℕ
demo_text n = joined (demo_lines n)

-- ---- the summary

abbrev pub begins_with : List ℕ → List ℕ → Bool
begins_with word line = bytes_eq (take (length word) line) word

abbrev pub ends_with : List ℕ → List ℕ → Bool
ends_with word line = bytes_eq (drop (length line - length word) line) word

-- how many of the reply lines pass the test; the count stops at the largest number of 32 bits
abbrev pub count_of : (List ℕ → Bool) → List ℕ → ℕ
count_of test sent = min (count_by test (lines sent)) (2 ^ 32 - 1)

abbrev pub are_ok : List ℕ → ℕ
are_ok sent = count_of (begins_with (codes "OK")) sent

abbrev pub are_refused : List ℕ → ℕ
are_refused sent = count_of (begins_with (codes "NO")) sent

abbrev pub are_old : List ℕ → ℕ
are_old sent = count_of (ends_with (codes " warn=old")) sent

-- `demo N: lines=A ok=B refused=C old=D` and a newline
unfoldable pub summary_text : ℕ → ℕ → ℕ → ℕ → List ℕ
summary_text n ok refused old =
    codes "demo " ++ (decimal n ++ (codes ":"
    ++ (number_field (codes "lines") (length (demo_lines n))
    ++ (number_field (codes "ok") ok
    ++ (number_field (codes "refused") refused
    ++ (number_field (codes "old") old
    ++ newline ∷ []))))))

-- the summary: the numbers of lines, of replies that begin with `OK`, of replies that begin with `NO`, and of replies
-- that end with ` warn=old`
abbrev pub summary : ℕ → List ℕ → List ℕ
summary n sent = summary_text n (are_ok sent) (are_refused sent) (are_old sent)
