-- The lines of a demo and their text.
use Rattle.std.proofs.Common.{◌≡◌, ◌≢◌, ℕ, zero, suc, ◌+◌, ◌*◌, ◌/◌, ◌%◌, ◌<◌, ◌≤◌, ◌==◌, Bool, true, false, not, ltb, List, [], ◌∷◌, ◌++◌, length, All, Result, Ok, Err, OnOk, codes, refl, sym, ap, ◌∙◌, subst, append_assoc, append-nil, length-append, arith, true≢false}
use Rattle.std.specs.Prelude.{if◌then◌else◌, ◌&&◌}
use Rattle.std.specs.List.{list_all}
use Rattle.std.specs.Fmt.{digit_glyph}
use Rattle.std.proofs.lemmas.Bool.{eqb-true, eqb-false, ne_eqb}
use Rattle.std.proofs.lemmas.List.Elements.{All-nil, All-cons, All-head, All-tail, All-append, All-from_recursion}
use Rattle.line_service.specs.Lines.{newline, lines, NoNewline}
use Rattle.line_service.proofs.CutLines.{lines-nil, lines-whole}
use Rattle.line_service.specs.Reading.{input_limit}
use Rattle.command_words.specs.Demo.{demo_lines, demo_text, joined, for_each, key_set, key_made, key_used, key_tested, key_deleted, first_part, second_part, four_digits, four_hex_digits}

-- ---- lines and their text

pub joined-append : (a b : List (List ℕ)) → joined (a ++ b) ≡ joined a ++ joined b
unfolding joined
joined-append [] b = refl
joined-append (l ∷ ls) b = ap (λ x. (l ++ newline ∷ []) ++ x) (joined-append ls b) ∙ sym (append_assoc (l ++ newline ∷ []) (joined ls) (joined b))

pub joined-nil : joined [] ≡ []
unfolding joined
joined-nil = refl

-- text behind text
pub behind : (old mid new : List ℕ) (a b : List (List ℕ)) → mid ≡ old ++ joined a → new ≡ mid ++ joined b → new ≡ old ++ joined (a ++ b)
behind old mid new a b first second =
    second ∙ (ap (λ x. x ++ joined b) first ∙ (append_assoc old (joined a) (joined b) ∙ ap (λ x. old ++ x) (sym (joined-append a b))))

-- the same, where the last piece may fail
pub behind_ok : {T E : Type 0} (r : Result T E) (old mid new : List ℕ) (a b : List (List ℕ)) → mid ≡ old ++ joined a
    → OnOk r (new ≡ mid ++ joined b) → OnOk r (new ≡ old ++ joined (a ++ b))
behind_ok (Ok done) old mid new a b first second = behind old mid new a b first second
behind_ok (Err fault) old mid new a b first second = tt

pub section_more : (f : ℕ → List (List ℕ)) (i : ℕ) (old mid new : List ℕ) → mid ≡ old ++ joined (for_each f i) → new ≡ mid ++ joined (f i)
    → new ≡ old ++ joined (for_each f (i + 1))
section_more f i old mid new first second =
    let next : suc i ≡ i + 1 = omega arith in
    subst (λ (n : ℕ). new ≡ old ++ joined (for_each f n)) next (behind old mid new (for_each f i) (f i) first second)

deleted_by : Bool → ℕ → List (List ℕ)
deleted_by t i = if t then (codes "CSNBKRD role=DEFAULT label=KEY." ++ four_digits i) ∷ [] else []

pub deleted-odd : (i : ℕ) (old : List ℕ) → (i % 2 ≡ 0 → ⊥) → old ≡ old ++ joined (key_deleted i)
unfolding deleted_by
deleted-odd i old odd =
    sym (append-nil old)
    ∙ (ap (λ x. old ++ x) (sym joined-nil) ∙ ap (λ t. old ++ joined (deleted_by t i)) (sym (ne_eqb (i % 2) 0 odd)))

pub deleted-even : (i : ℕ) → i % 2 ≡ 0 → (codes "CSNBKRD role=DEFAULT label=KEY." ++ four_digits i) ∷ [] ≡ key_deleted i
unfolding deleted_by
deleted-even i even = ap (λ t. deleted_by t i) (sym (ap (λ n. n == 0) even))

lines-joined : (ls : List (List ℕ)) → All NoNewline ls → lines (joined ls) ≡ ls
unfolding joined
lines-joined [] clean = lines-nil
lines-joined (l ∷ ls) clean =
    ap lines (append_assoc l (newline ∷ []) (joined ls)) ∙ (lines-whole l (joined ls) (All-head NoNewline l ls clean) ∙ ap (λ x. l ∷ x) (lines-joined ls (All-tail NoNewline l ls clean)))

-- ---- no line has a newline

abbrev IsOther : ℕ → Type 0
IsOther b = b ≢ newline

abbrev is_clean : ℕ → Bool
is_clean b = not (b == newline)

clean_byte : (b : ℕ) (t : Bool) → (b == newline) ≡ t → not t ≡ true → b ≢ newline
clean_byte b false is h = eqb-false b newline is
clean_byte b true is h = absurd (true≢false (sym h))

clean : (bs : List ℕ) → list_all is_clean bs ≡ true → NoNewline bs
clean [] h = All-nil IsOther
clean (b ∷ bs) h = by_first (is_clean b) refl h (clean bs)
  where
    by_first : (t : Bool) → is_clean b ≡ t → (t && list_all is_clean bs) ≡ true → (list_all is_clean bs ≡ true → NoNewline bs) → NoNewline (b ∷ bs)
    by_first true is rest others = All-cons IsOther b bs (clean_byte b (b == newline) refl is) (others rest)
    by_first false is rest others = absurd (true≢false (sym rest))

clean-append : (a b : List ℕ) → NoNewline a → NoNewline b → NoNewline (a ++ b)
clean-append a b first second = All-append IsOther a b first second

above : (n x : ℕ) → 11 ≤ n → n + x ≢ newline
above n x big = λ h. omega (arith, big, h)

clean-digits : (i : ℕ) → NoNewline (four_digits i)
clean-digits i = All-from_recursion IsOther (four_digits i) (above 48 _ (omega arith), (above 48 _ (omega arith), (above 48 _ (omega arith), (above 48 _ (omega arith), tt))))

clean-glyph : (d : ℕ) → digit_glyph false d ≢ newline
clean-glyph d = by_test (ltb d 10)
  where
    by_test : (t : Bool) → (if t then 48 + d else 87 + d) ≢ newline
    by_test true = above 48 d (omega arith)
    by_test false = above 87 d (omega arith)

clean-hex : (i : ℕ) → NoNewline (four_hex_digits i)
clean-hex i = All-from_recursion IsOther (four_hex_digits i) (clean-glyph _, (clean-glyph _, (clean-glyph _, (clean-glyph _, tt))))

abbrev AreClean : List (List ℕ) → Type 0
AreClean ls = All NoNewline ls

all-clean : (a b : List (List ℕ)) → AreClean a → AreClean b → AreClean (a ++ b)
all-clean a b first second = All-append NoNewline a b first second

each-clean : (f : ℕ → List (List ℕ)) → ((i : ℕ) → AreClean (f i)) → (n : ℕ) → AreClean (for_each f n)
each-clean f one zero = All-nil NoNewline
each-clean f one (suc n) = all-clean (for_each f n) (f n) (each-clean f one n) (one n)

made-clean : (i : ℕ) → AreClean (key_made i)
made-clean i = All-from_recursion NoNewline (key_made i) (
  clean-append (codes "CSNBKRC role=DEFAULT label=KEY.") (four_digits i) (clean (codes "CSNBKRC role=DEFAULT label=KEY.") refl) (clean-digits i),
  (
    clean-append (codes "CSNBCKI role=DEFAULT clear=000000000000") (four_hex_digits i ++ (codes " to=L:KEY." ++ four_digits i)) (clean (codes "CSNBCKI role=DEFAULT clear=000000000000") refl)
        (clean-append (four_hex_digits i) (codes " to=L:KEY." ++ four_digits i) (clean-hex i)
        (clean-append (codes " to=L:KEY.") (four_digits i) (clean (codes " to=L:KEY.") refl) (clean-digits i))),
    tt,
  ),
)

used-clean : (i : ℕ) → AreClean (key_used i)
used-clean i = All-from_recursion NoNewline (key_used i) (
  clean-append (codes "CSNBENC role=DEFAULT key=L:KEY.") (four_digits i ++ codes " iv=0000000000000000 pad=NONE text=0000000000000000") (clean (codes "CSNBENC role=DEFAULT key=L:KEY.") refl)
      (clean-append (four_digits i) (codes " iv=0000000000000000 pad=NONE text=0000000000000000") (clean-digits i) (clean (codes " iv=0000000000000000 pad=NONE text=0000000000000000") refl)),
  tt,
)

tested-clean : (i : ℕ) → AreClean (key_tested i)
tested-clean i =
    All-from_recursion NoNewline (key_tested i) (clean-append (codes "CSNBKYT role=DEFAULT key=L:KEY.") (four_digits i) (clean (codes "CSNBKYT role=DEFAULT key=L:KEY.") refl) (clean-digits i), tt)

deleted-clean : (i : ℕ) → AreClean (key_deleted i)
deleted-clean i = by_test (i % 2 == 0)
  where
    by_test : (t : Bool) → AreClean (if t then (codes "CSNBKRD role=DEFAULT label=KEY." ++ four_digits i) ∷ [] else [])
    by_test true =
        All-cons NoNewline (codes "CSNBKRD role=DEFAULT label=KEY." ++ four_digits i) [] (clean-append (codes "CSNBKRD role=DEFAULT label=KEY.") (four_digits i) (clean (codes "CSNBKRD role=DEFAULT label=KEY.") refl) (clean-digits i)) (All-nil NoNewline)
    by_test false = All-nil NoNewline

demo-clean : (n : ℕ) → AreClean (demo_lines n)
unfolding demo_lines
demo-clean n =
    let b = for_each key_made n in
    let c = for_each key_used n in
    let d = key_set second_part in
    let e = key_tested 0 in
    let f = codes "REENCIPHER role=DEFAULT" ∷ [] in
    let g = for_each key_tested n in
    let h = for_each key_deleted n in
    let i = codes "CSNBKRL role=DEFAULT prefix=" ∷ codes "CSNBMKP role=DEFAULT action=SET" ∷ [] in
    all-clean (key_set first_part) (b ++ (c ++ (d ++ (e ++ (f ++ (g ++ (h ++ i)))))))
    (All-from_recursion NoNewline (key_set first_part) (clean (codes "CSNBMKP role=DEFAULT action=FIRST part=0102030405060708090a0b0c0d0e0f101112131415161718") refl, (clean (codes "CSNBMKP role=DEFAULT action=LAST part=000000000000000000000000000000000000000000000000") refl, (clean (codes "CSNBMKP role=DEFAULT action=SET") refl, tt))))
    (all-clean b (c ++ (d ++ (e ++ (f ++ (g ++ (h ++ i)))))) (each-clean key_made made-clean n)
    (all-clean c (d ++ (e ++ (f ++ (g ++ (h ++ i))))) (each-clean key_used used-clean n)
    (all-clean d (e ++ (f ++ (g ++ (h ++ i))))
    (All-from_recursion NoNewline (key_set second_part) (clean (codes "CSNBMKP role=DEFAULT action=FIRST part=ffffffffffffffffffffffffffffffffffffffffffffffff") refl, (clean (codes "CSNBMKP role=DEFAULT action=LAST part=000000000000000000000000000000000000000000000000") refl, (clean (codes "CSNBMKP role=DEFAULT action=SET") refl, tt))))
    (all-clean e (f ++ (g ++ (h ++ i))) (tested-clean 0)
    (all-clean f (g ++ (h ++ i)) (All-cons NoNewline (codes "REENCIPHER role=DEFAULT") [] (clean (codes "REENCIPHER role=DEFAULT") refl) (All-nil NoNewline))
    (all-clean g (h ++ i) (each-clean key_tested tested-clean n)
    (all-clean h i (each-clean key_deleted deleted-clean n)
    (All-from_recursion NoNewline i (clean (codes "CSNBKRL role=DEFAULT prefix=") refl, (clean (codes "CSNBMKP role=DEFAULT action=SET") refl, tt))))))))))

-- the lines of the text are those of the demo
pub lines-demo_text : (n : ℕ) → lines (demo_text n) ≡ demo_lines n
lines-demo_text n = lines-joined (demo_lines n) (demo-clean n)

-- ---- how long it is

abbrev size : List (List ℕ) → ℕ
size ls = length (joined ls)

size-append : (a b : List (List ℕ)) → size (a ++ b) ≡ size a + size b
size-append a b = ap length (joined-append a b) ∙ length-append (joined a) (joined b)

size-each : (f : ℕ → List (List ℕ)) (k : ℕ) → ((i : ℕ) → size (f i) ≤ k) → (n : ℕ) → size (for_each f n) ≤ k * n
size-each f k one zero = subst (λ x. length x ≤ k * 0) (sym joined-nil) (omega arith)
size-each f k one (suc n) = omega (arith, size-append (for_each f n) (f n), size-each f k one n, one n)

made-size : (i : ℕ) → size (key_made i) ≤ 200
unfolding joined
made-size i = omega arith

used-size : (i : ℕ) → size (key_used i) ≤ 200
unfolding joined
used-size i = omega arith

tested-size : (i : ℕ) → size (key_tested i) ≤ 200
unfolding joined
tested-size i = omega arith

deleted-size : (i : ℕ) → size (key_deleted i) ≤ 200
unfolding joined
deleted-size i = by_test (i % 2 == 0)
  where
    by_test : (t : Bool) → size (if t then (codes "CSNBKRD role=DEFAULT label=KEY." ++ four_digits i) ∷ [] else []) ≤ 200
    by_test true = omega arith
    by_test false = omega arith

set-size : size (key_set first_part) + size (key_set second_part) ≤ 500
unfolding joined
set-size = omega arith

few-size : size (codes "REENCIPHER role=DEFAULT" ∷ []) + size (codes "CSNBKRL role=DEFAULT prefix=" ∷ codes "CSNBMKP role=DEFAULT action=SET" ∷ []) ≤ 500
unfolding joined
few-size = omega arith

sizes : (a b c d e f g h i : List (List ℕ)) → size (a ++ (b ++ (c ++ (d ++ (e ++ (f ++ (g ++ (h ++ i))))))))
    ≡ size a + (size b + (size c + (size d + (size e + (size f + (size g + (size h + size i)))))))
sizes a b c d e f g h i =
    size-append a _ ∙ ap (λ x. size a + x)
    (size-append b _ ∙ ap (λ x. size b + x)
    (size-append c _ ∙ ap (λ x. size c + x)
    (size-append d _ ∙ ap (λ x. size d + x)
    (size-append e _ ∙ ap (λ x. size e + x)
    (size-append f _ ∙ ap (λ x. size f + x)
    (size-append g _ ∙ ap (λ x. size g + x) (size-append h i)))))))

-- the text is shorter than the limit of the input
pub demo-short : (n : ℕ) → n ≤ 1000 → length (demo_text n) < input_limit
unfolding demo_lines
demo-short n few =
    omega (
      arith,
      few,
      sizes (key_set first_part) (for_each key_made n) (for_each key_used n) (key_set second_part) (key_tested 0)
          (codes "REENCIPHER role=DEFAULT" ∷ []) (for_each key_tested n) (for_each key_deleted n)
          (codes "CSNBKRL role=DEFAULT prefix=" ∷ codes "CSNBMKP role=DEFAULT action=SET" ∷ []),
      size-each key_made 200 made-size n,
      size-each key_used 200 used-size n,
      size-each key_tested 200 tested-size n,
      size-each key_deleted 200 deleted-size n,
      tested-size 0,
      set-size,
      few-size,
    )

-- ---- how many lines it has

count-each : (f : ℕ → List (List ℕ)) (k : ℕ) → ((i : ℕ) → length (f i) ≡ k) → (n : ℕ) → length (for_each f n) ≡ k * n
count-each f k one zero = omega arith
count-each f k one (suc n) = omega (arith, length-append (for_each f n) (f n), count-each f k one n, one n)

count-deleted : (n : ℕ) → length (for_each key_deleted n) ≡ (n + 1) / 2
count-deleted zero = refl
count-deleted (suc n) = by_test (n % 2 == 0) refl (count-deleted n)
  where
    by_test : (t : Bool) → (n % 2 == 0) ≡ t → length (for_each key_deleted n) ≡ (n + 1) / 2
        → length (for_each key_deleted n ++ (if t then (codes "CSNBKRD role=DEFAULT label=KEY." ++ four_digits n) ∷ [] else [])) ≡ (suc n + 1) / 2
    by_test true is before =
        omega (arith, length-append (for_each key_deleted n) ((codes "CSNBKRD role=DEFAULT label=KEY." ++ four_digits n) ∷ []), before, eqb-true (n % 2) 0 is)
    by_test false is before =
        omega (arith, ap length (append-nil (for_each key_deleted n)), before, eqb-false (n % 2) 0 is)

counts : (a b c d e f g h i : List (List ℕ)) → length (a ++ (b ++ (c ++ (d ++ (e ++ (f ++ (g ++ (h ++ i))))))))
    ≡ length a + (length b + (length c + (length d + (length e + (length f + (length g + (length h + length i)))))))
counts a b c d e f g h i =
    length-append a _ ∙ ap (λ x. length a + x)
    (length-append b _ ∙ ap (λ x. length b + x)
    (length-append c _ ∙ ap (λ x. length c + x)
    (length-append d _ ∙ ap (λ x. length d + x)
    (length-append e _ ∙ ap (λ x. length e + x)
    (length-append f _ ∙ ap (λ x. length f + x)
    (length-append g _ ∙ ap (λ x. length g + x) (length-append h i)))))))

pub demo-count : (n : ℕ) → length (demo_lines n) ≡ 10 + 4 * n + (n + 1) / 2
unfolding demo_lines
demo-count n =
    counts (key_set first_part) (for_each key_made n) (for_each key_used n) (key_set second_part) (key_tested 0)
    (codes "REENCIPHER role=DEFAULT" ∷ []) (for_each key_tested n) (for_each key_deleted n)
    (codes "CSNBKRL role=DEFAULT prefix=" ∷ codes "CSNBMKP role=DEFAULT action=SET" ∷ [])
    ∙ omega (arith, count-each key_made 2 (λ i. refl) n, count-each key_used 1 (λ i. refl) n, count-each key_tested 1 (λ i. refl) n, count-deleted n)

-- the text, as the parts that were put one behind the other
pub text_is : (n : ℕ) (t1 t2 t3 t4 t5 t6 t7 t8 t9 t10 : List ℕ) → t1 ≡ [] ++ joined (key_set first_part)
    → t2 ≡ t1 ++ joined (for_each key_made n) → t3 ≡ t2 ++ joined (for_each key_used n) → t4 ≡ t3 ++ joined (key_set second_part)
    → t5 ≡ t4 ++ joined (key_tested 0) → t6 ≡ t5 ++ joined (codes "REENCIPHER role=DEFAULT" ∷ []) → t7 ≡ t6 ++ joined (for_each key_tested n)
    → t8 ≡ t7 ++ joined (for_each key_deleted n) → t9 ≡ t8 ++ joined (codes "CSNBKRL role=DEFAULT prefix=" ∷ [])
    → t10 ≡ t9 ++ joined (codes "CSNBMKP role=DEFAULT action=SET" ∷ []) → t10 ≡ demo_text n
unfolding demo_lines
text_is n t1 t2 t3 t4 t5 t6 t7 t8 t9 t10 e1 e2 e3 e4 e5 e6 e7 e8 e9 e10 =
    let a = key_set first_part in
    let b = for_each key_made n in
    let c = for_each key_used n in
    let d = key_set second_part in
    let e = key_tested 0 in
    let f = codes "REENCIPHER role=DEFAULT" ∷ [] in
    let g = for_each key_tested n in
    let h = for_each key_deleted n in
    let i = codes "CSNBKRL role=DEFAULT prefix=" ∷ [] in
    let j = codes "CSNBMKP role=DEFAULT action=SET" ∷ [] in
    let s9 : t10 ≡ t8 ++ joined (i ++ j) = behind t8 t9 t10 i j e9 e10 in
    let s8 : t10 ≡ t7 ++ joined (h ++ (i ++ j)) = behind t7 t8 t10 h (i ++ j) e8 s9 in
    let s7 : t10 ≡ t6 ++ joined (g ++ (h ++ (i ++ j))) = behind t6 t7 t10 g (h ++ (i ++ j)) e7 s8 in
    let s6 : t10 ≡ t5 ++ joined (f ++ (g ++ (h ++ (i ++ j)))) = behind t5 t6 t10 f (g ++ (h ++ (i ++ j))) e6 s7 in
    let s5 : t10 ≡ t4 ++ joined (e ++ (f ++ (g ++ (h ++ (i ++ j))))) = behind t4 t5 t10 e (f ++ (g ++ (h ++ (i ++ j)))) e5 s6 in
    let s4 : t10 ≡ t3 ++ joined (d ++ (e ++ (f ++ (g ++ (h ++ (i ++ j)))))) = behind t3 t4 t10 d (e ++ (f ++ (g ++ (h ++ (i ++ j))))) e4 s5 in
    let s3 : t10 ≡ t2 ++ joined (c ++ (d ++ (e ++ (f ++ (g ++ (h ++ (i ++ j))))))) = behind t2 t3 t10 c (d ++ (e ++ (f ++ (g ++ (h ++ (i ++ j)))))) e3 s4 in
    let s2 : t10 ≡ t1 ++ joined (b ++ (c ++ (d ++ (e ++ (f ++ (g ++ (h ++ (i ++ j)))))))) = behind t1 t2 t10 b (c ++ (d ++ (e ++ (f ++ (g ++ (h ++ (i ++ j))))))) e2 s3 in
    behind [] t1 t10 a (b ++ (c ++ (d ++ (e ++ (f ++ (g ++ (h ++ (i ++ j)))))))) e1 s2
