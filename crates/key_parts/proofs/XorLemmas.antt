-- The exclusive or of lists, and that of many lists of one length.
use Rattle.std.proofs.Common.{◌≡◌, ℕ, ◌<◌, List, [], ◌∷◌, ◌++◌, length, get_or, replicate, refl, sym, ap, ◌∙◌, arith}
use Rattle.std.specs.Prelude.{All, bit_xor, fold}
use Rattle.std.specs.Int.Bits.{xor_assoc, xor_self, xor_zero_l}
use Rattle.std.proofs.lemmas.Nat.{xor_comm, xor_of_8}
use Rattle.std.proofs.lemmas.List.Elements.{All-cons, All-from_get_or, All-get_or, All-head, All-tail}
use Rattle.key_cells.specs.Bytes.{AreBytes, xor}
use Rattle.key_cells.proofs.ByteLemmas.{get_or-xor, length-xor, xor-zeros}
use Rattle.key_parts.specs.Parts.{IsOnlyPart, xor_all}
use Rattle.multi_encipher.proofs.SealLaws.{all_zeros}

-- ---- two lists

pub xor-comm : (xs ys : List ℕ) → xor xs ys ≡ xor ys xs
unfolding xor
xor-comm [] [] = refl
xor-comm [] (y ∷ ys) = refl
xor-comm (x ∷ xs) [] = refl
xor-comm (x ∷ xs) (y ∷ ys) = ap {B = List ℕ} (λ b. b ∷ xor xs ys) (xor_comm x y) ∙ ap {B = List ℕ} (λ rest. bit_xor y x ∷ rest) (xor-comm xs ys)

pub xor-assoc : (xs ys zs : List ℕ) → xor (xor xs ys) zs ≡ xor xs (xor ys zs)
unfolding xor
xor-assoc [] ys zs = refl
xor-assoc (x ∷ xs) [] zs = refl
xor-assoc (x ∷ xs) (y ∷ ys) [] = refl
xor-assoc (x ∷ xs) (y ∷ ys) (z ∷ zs) =
    ap {B = List ℕ} (λ b. b ∷ xor (xor xs ys) zs) (xor_assoc x y z) ∙ ap {B = List ℕ} (λ rest. bit_xor x (bit_xor y z) ∷ rest) (xor-assoc xs ys zs)

again : (x y : ℕ) → bit_xor x (bit_xor x y) ≡ y
again x y = sym (xor_assoc x x y) ∙ (ap (λ b. bit_xor b y) (xor_self x) ∙ xor_zero_l y)

-- with the same list twice
pub xor-again : (xs ys : List ℕ) → length xs ≡ length ys → xor xs (xor xs ys) ≡ ys
unfolding xor
xor-again [] [] same = refl
xor-again [] (y ∷ ys) same = absurd (omega arith)
xor-again (x ∷ xs) [] same = absurd (omega arith)
xor-again (x ∷ xs) (y ∷ ys) same = ap {B = List ℕ} (λ b. b ∷ xor xs (xor xs ys)) (again x y) ∙ ap {B = List ℕ} (λ rest. y ∷ rest) (xor-again xs ys (omega arith))

pub xor-back : (xs ys : List ℕ) → length xs ≡ length ys → xor (xor xs ys) ys ≡ xs
xor-back xs ys same = ap (λ l. xor l ys) (xor-comm xs ys) ∙ (xor-comm (xor ys xs) ys ∙ xor-again ys xs (sym same))

pub bytes-xor : (n : ℕ) (xs ys : List ℕ) → AreBytes n xs → AreBytes n ys → AreBytes n (xor xs ys)
bytes-xor n xs ys first second = record {
  size = length-xor xs ys (first.size ∙ sym second.size) ∙ first.size;
  each = All-from_get_or (λ b. b < 256) (xor xs ys) 0 fits;
}
  where
    long : length (xor xs ys) ≡ length xs
    long = length-xor xs ys (first.size ∙ sym second.size)

    fits : (i : ℕ) → i < length (xor xs ys) → get_or (xor xs ys) i 0 < 256
    fits i within =
        let left : i < length xs = omega (arith, long) in
        let right : i < length ys = omega (arith, long, first.size, second.size) in
        let x : get_or xs i 0 < 256 = All-get_or (λ b. b < 256) xs i 0 left first.each in
        let y : get_or ys i 0 < 256 = All-get_or (λ b. b < 256) ys i 0 right second.each in
        rw (get_or-xor xs ys i left right) (xor_of_8 (get_or xs i 0) (get_or ys i 0) x y)

-- ---- many lists

pub bytes-xor_all : (n : ℕ) (parts : List (List ℕ)) → All (AreBytes n) parts → AreBytes n (xor_all n parts)
bytes-xor_all n [] are = all_zeros n
bytes-xor_all n (part ∷ parts) are =
    bytes-xor n part (xor_all n parts) (All-head (AreBytes n) part parts are) (bytes-xor_all n parts (All-tail (AreBytes n) part parts are))

pub xor_all-append : (n : ℕ) (xs ys : List (List ℕ)) → All (AreBytes n) ys → xor_all n (xs ++ ys) ≡ xor (xor_all n xs) (xor_all n ys)
xor_all-append n [] ys are = sym (xor-zeros n (xor_all n ys) (bytes-xor_all n ys are).size)
xor_all-append n (x ∷ xs) ys are = ap (xor x) (xor_all-append n xs ys are) ∙ sym (xor-assoc x (xor_all n xs) (xor_all n ys))

-- from the first list on, one after another
pub xor-fold : (n : ℕ) (first : List ℕ) (parts : List (List ℕ)) → AreBytes n first → All (AreBytes n) parts → fold xor first parts ≡ xor first (xor_all n parts)
xor-fold n first [] is are = sym (xor-comm first (replicate n 0) ∙ xor-zeros n first is.size)
xor-fold n first (part ∷ parts) is are =
    xor-fold n (xor first part) parts (bytes-xor n first part is (All-head (AreBytes n) part parts are)) (All-tail (AreBytes n) part parts are)
    ∙ xor-assoc first part (xor_all n parts)

-- ---- all lists but one

module _ (n : ℕ) (before after : List (List ℕ)) (key : List ℕ) (befores : All (AreBytes n) before) (afters : All (AreBytes n) after) (is : AreBytes n key) where
  front : AreBytes n (xor_all n before)
  front = bytes-xor_all n before befores

  back : AreBytes n (xor_all n after)
  back = bytes-xor_all n after afters

  split : (part : List ℕ) → AreBytes n part → xor_all n (before ++ part ∷ after) ≡ xor (xor_all n before) (xor part (xor_all n after))
  split part bytes = xor_all-append n before (part ∷ after) (All-cons (AreBytes n) part after bytes afters)

  abbrev part : List ℕ
  part = xor (xor (xor_all n before) key) (xor_all n after)

  whole : AreBytes n (xor (xor_all n before) key)
  whole = bytes-xor n (xor_all n before) key front is

  bytes : AreBytes n part
  bytes = bytes-xor n (xor (xor_all n before) key) (xor_all n after) whole back

  makes : xor_all n (before ++ part ∷ after) ≡ key
  makes =
      split part bytes
      ∙ (ap (xor (xor_all n before)) (xor-back (xor (xor_all n before) key) (xor_all n after) (whole.size ∙ sym back.size))
      ∙ xor-again (xor_all n before) key (front.size ∙ sym is.size))

  only : (other : List ℕ) → AreBytes n other → xor_all n (before ++ other ∷ after) ≡ key → other ≡ part
  only other are made =
      sym (xor-back other (xor_all n after) (are.size ∙ sym back.size))
      ∙ ap (λ l. xor l (xor_all n after))
      (sym (xor-again (xor_all n before) (xor other (xor_all n after)) (front.size ∙ sym (bytes-xor n other (xor_all n after) are back).size))
      ∙ ap (xor (xor_all n before)) (sym (split other are) ∙ made))

  -- exactly one list makes the key of them
  pub only_part : (one : List ℕ) × IsOnlyPart n before after key one
  only_part = (part, record { bytes = bytes; makes = makes; only = only })
