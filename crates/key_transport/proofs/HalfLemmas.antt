-- Right halves that are drawn for a left one, until one differs from it.
use borrow.Rule.Slice.PartMut.{put_mid}
use Rattle.std.proofs.Common.{◌≡◌, ◌≢◌, ℕ, suc, ◌+◌, ◌-◌, ◌*◌, ◌/◌, ◌<◌, Bool, true, false, ◌&&◌, List, [], ◌++◌, Option, length, map, take, drop, get_or, refl, sym, ap, ◌∙◌, subst, arith, append_assoc, append-nil, take-append-drop}
use Rattle.std.specs.List.{list_all}
use Rattle.std.specs.Io.KnownBytes.{Consumes}
use Rattle.std.proofs.KnownBytes.{Consumes-trans}
use Rattle.std.proofs.lemmas.Bool.{and_from, and_left, and_right, cond-true, cond-false, false_from_ne_true, le-leb}
use Rattle.std.proofs.lemmas.List.{drop_all, ext_get_or, get_or-drop, get_or-map, get_or-take, length-append, length-map, length-take-le, length-drop, take_all, take_at, drop_at}
use Rattle.std.proofs.lemmas.Slice.Eq.{bytes_eq-Decides}
use Rattle.cca_vectors.specs.declared.key_length.Length.TheVariants.{Eight, Sixteen, Unique}
use Rattle.key_transport.specs.Generated.{Draws, DrawsBytes}
use Rattle.key_transport.specs.UniqueHalves.{is_same_half, pieces, halves_drawn, key_taken, key_drawn}

-- ---- two halves

-- a byte without its low-order bit
abbrev seven_bits : ℕ → ℕ
seven_bits byte = byte / 2

-- halves whose bytes are the same, the low-order bit of each aside
pub same_where : (one other : List ℕ) → length one ≡ length other → ((k : ℕ) → k < length one → get_or one k 0 / 2 ≡ get_or other k 0 / 2) → is_same_half one other ≡ true
same_where one other long each =
    (bytes_eq-Decides (map seven_bits one) (map seven_bits other)).1
    (ext_get_or 0 (map seven_bits one) (map seven_bits other) (length-map one seven_bits ∙ (long ∙ sym (length-map other seven_bits)))
    (λ k within.
    let below : k < length one = omega (arith, length-map one seven_bits, within) in
    let under : k < length other = omega (arith, below, long) in
    get_or-map seven_bits one k 0 0 below ∙ (each k below ∙ sym (get_or-map seven_bits other k 0 0 under))))

-- halves of which one byte differs, the low-order bit aside
pub apart_at : (one other : List ℕ) (k : ℕ) → k < length one → k < length other → get_or one k 0 / 2 ≢ get_or other k 0 / 2 → is_same_half one other ≡ false
apart_at one other k below under differ =
    false_from_ne_true (is_same_half one other)
    (λ same. differ (sym (get_or-map seven_bits one k 0 0 below)
    ∙ (ap (λ (bytes : List ℕ). get_or bytes k 0) ((bytes_eq-Decides (map seven_bits one) (map seven_bits other)).0 same)
    ∙ get_or-map seven_bits other k 0 0 under)))

-- the halves of a key, byte by byte
pub key_same : (key : List ℕ) → length key ≡ 16 → ((k : ℕ) → k < 8 → get_or key k 0 / 2 ≡ get_or key (8 + k) 0 / 2) → is_same_half (take 8 key) (drop 8 key) ≡ true
key_same key long each =
    let left_long : length (take 8 key) ≡ 8 = length-take-le 8 key (omega arith) in
    let right_long : length (drop 8 key) ≡ 8 = length-drop 8 key ∙ omega arith in
    same_where (take 8 key) (drop 8 key) (left_long ∙ sym right_long)
    (λ k below.
    let within : k < 8 = omega (arith, below, left_long) in
    ap seven_bits (get_or-take 8 key k 0 within) ∙ (each k within ∙ ap seven_bits (sym (get_or-drop 8 key k 0))))

pub key_apart : (key : List ℕ) (k : ℕ) → length key ≡ 16 → k < 8 → get_or key k 0 / 2 ≢ get_or key (8 + k) 0 / 2 → is_same_half (take 8 key) (drop 8 key) ≡ false
key_apart key k long within differ =
    let left_long : length (take 8 key) ≡ 8 = length-take-le 8 key (omega arith) in
    let right_long : length (drop 8 key) ≡ 8 = length-drop 8 key ∙ omega arith in
    apart_at (take 8 key) (drop 8 key) k (omega arith) (omega arith)
    (λ same. differ (sym (ap seven_bits (get_or-take 8 key k 0 within)) ∙ (same ∙ ap seven_bits (get_or-drop 8 key k 0))))

-- ---- one right half

-- a right half that is the same as the left one is followed by more
pub more_where_same : (n : ℕ) (left ahead : List ℕ) → is_same_half left (take 8 ahead) ≡ true → halves_drawn (suc n) left ahead ≡ 1 + halves_drawn n left (drop 8 ahead)
more_where_same n left ahead same = cond-true (is_same_half left (take 8 ahead)) (1 + halves_drawn n left (drop 8 ahead)) 1 same

-- one that differs is the last
pub last_where_apart : (n : ℕ) (left ahead : List ℕ) → is_same_half left (take 8 ahead) ≡ false → halves_drawn (suc n) left ahead ≡ 1
last_where_apart n left ahead apart = cond-false (is_same_half left (take 8 ahead)) (1 + halves_drawn n left (drop 8 ahead)) 1 apart

first_piece : (left half ahead : List ℕ) (same : Bool) → length half ≡ 8 → is_same_half left half ≡ same → is_same_half left (take 8 (half ++ ahead)) ≡ same
first_piece left half ahead same long is = ap (is_same_half left) (take_at half ahead 8 long) ∙ is

-- ---- right halves that are the same as the left one

-- so many right halves, each the same as the left one: what follows decides how many are drawn, and whether they are repeated
pub record AreSame (left front : List ℕ) (n : ℕ) : Type 0 where
  pub long : length front ≡ 8 * n
  pub drawn : (m : ℕ) (ahead : List ℕ) → halves_drawn (n + m) left (front ++ ahead) ≡ n + halves_drawn m left ahead
  pub same : (m : ℕ) (ahead : List ℕ) → list_all (is_same_half left) (pieces (n + m) (front ++ ahead)) ≡ list_all (is_same_half left) (pieces m ahead)

pub none_yet : (left : List ℕ) → AreSame left [] 0
none_yet left = record {
  long = refl;
  drawn = λ m ahead. let e : 0 + m ≡ m = omega arith in let f : halves_drawn m left ahead ≡ 0 + halves_drawn m left ahead = omega arith in
      ap (λ k. halves_drawn k left ahead) e ∙ f;
  same = λ m ahead. let e : 0 + m ≡ m = omega arith in ap (λ k. list_all (is_same_half left) (pieces k ahead)) e;
}

-- one more
pub one_more_same : (left front half : List ℕ) (n : ℕ) → length half ≡ 8 → is_same_half left half ≡ true → AreSame left front n → AreSame left (front ++ half) (n + 1)
one_more_same left front half n long is before =
    let count : (m : ℕ) → n + 1 + m ≡ n + suc m = λ m. omega arith in
    record {
      long = length-append front half ∙ omega (arith, long, before.long);
      drawn = λ m ahead.
          let deeper : n + (1 + halves_drawn m left ahead) ≡ n + 1 + halves_drawn m left ahead = omega arith in
          ap (λ k. halves_drawn k left (front ++ half ++ ahead)) (count m)
          ∙ (ap (halves_drawn (n + suc m) left) (append_assoc front half ahead)
          ∙ (before.drawn (suc m) (half ++ ahead)
          ∙ (ap (λ k. n + k) (more_where_same m left (half ++ ahead) (first_piece left half ahead true long is)
          ∙ ap (λ rest. 1 + halves_drawn m left rest) (drop_at half ahead 8 long))
          ∙ deeper)));
      same = λ m ahead.
          ap (λ k. list_all (is_same_half left) (pieces k (front ++ half ++ ahead))) (count m)
          ∙ (ap (λ rest. list_all (is_same_half left) (pieces (n + suc m) rest)) (append_assoc front half ahead)
          ∙ (before.same (suc m) (half ++ ahead)
          ∙ (ap (λ b. b && list_all (is_same_half left) (pieces m (drop 8 (half ++ ahead)))) (first_piece left half ahead true long is)
          ∙ ap (λ rest. list_all (is_same_half left) (pieces m rest)) (drop_at half ahead 8 long))));
    }

-- ---- a key by its left half, the right halves that are the same, and the last right half

left_first : (left rest : List ℕ) → length left ≡ 8 → take 8 (left ++ rest) ≡ left
left_first left rest long = take_at left rest 8 long

right_after : (left rest : List ℕ) → length left ≡ 8 → drop 8 (left ++ rest) ≡ rest
right_after left rest long = drop_at left rest 8 long

-- how many right halves there are, where the last one ends them
counted : (left front half : List ℕ) (n m : ℕ) → n + suc m ≡ 8 → AreSame left front n → halves_drawn (suc m) left half ≡ 1 → halves_drawn 8 left (front ++ half) ≡ n + 1
counted left front half n m eight before one =
    sym (ap (λ k. halves_drawn k left (front ++ half)) eight) ∙ (before.drawn (suc m) half ∙ ap (λ k. n + k) one)

-- what the key takes
taken_by : (left front half : List ℕ) (n : ℕ) → length left ≡ 8 → halves_drawn 8 left (front ++ half) ≡ n + 1 → key_taken Unique (left ++ (front ++ half)) ≡ 8 + 8 * (n + 1)
taken_by left front half n long count =
    ap (λ l. 8 + 8 * halves_drawn 8 l (drop 8 (left ++ (front ++ half)))) (left_first left (front ++ half) long)
    ∙ (ap (λ r. 8 + 8 * halves_drawn 8 left r) (right_after left (front ++ half) long)
    ∙ ap (λ k. 8 + 8 * k) count)

long_by : (left front half : List ℕ) (n : ℕ) → length left ≡ 8 → length front ≡ 8 * n → length half ≡ 8 → length (left ++ (front ++ half)) ≡ 8 + 8 * (n + 1)
long_by left front half n left_long front_long half_long =
    length-append left (front ++ half) ∙ omega (arith, length-append front half, left_long, front_long, half_long)

-- whether each right half is the same, by the last one
told : (left front half : List ℕ) (n m : ℕ) (is : Bool) → n + suc m ≡ 8 → length left ≡ 8 → AreSame left front n → list_all (is_same_half left) (pieces (suc m) half) ≡ is
    → list_all (is_same_half (take 8 (left ++ (front ++ half)))) (pieces 8 (drop 8 (left ++ (front ++ half)))) ≡ is
told left front half n m is eight long before last =
    ap (λ l. list_all (is_same_half l) (pieces 8 (drop 8 (left ++ (front ++ half))))) (left_first left (front ++ half) long)
    ∙ (ap (λ r. list_all (is_same_half left) (pieces 8 r)) (right_after left (front ++ half) long)
    ∙ (sym (ap (λ k. list_all (is_same_half left) (pieces k (front ++ half))) eight)
    ∙ (before.same (suc m) half ∙ last)))

-- the key is the left half and the last right one
key_by : (left front half : List ℕ) → length left ≡ 8 → length half ≡ 8 → key_drawn Unique (left ++ (front ++ half)) ≡ left ++ half
key_by left front half left_long half_long =
    let whole = left ++ (front ++ half) in
    let seam : length (left ++ front) ≡ length whole - 8 =
    omega (arith, length-append left front, length-append left (front ++ half), length-append front half, left_long, half_long) in
    ap (λ l. l ++ drop (length whole - 8) whole) (left_first left (front ++ half) left_long)
    ∙ ap (λ r. left ++ r) (ap (drop (length whole - 8)) (sym (append_assoc left front half)) ∙ drop_at (left ++ front) half (length whole - 8) seam)

-- ---- what is drawn into a place

-- a key of the other lengths, by one fill
pub eight_drawn : (before after : Option (List ℕ)) (bytes rest : List ℕ) → length bytes ≡ 8 → Consumes before after bytes → DrawsBytes Eight before after (bytes ++ rest)
eight_drawn before after bytes rest long consumed = record {
  draw = record { drawn = bytes; size = long; consumed = consumed; is_repeated = refl };
  bytes = take_at bytes rest 8 long;
}

pub sixteen_drawn : (before after : Option (List ℕ)) (bytes : List ℕ) → length bytes ≡ 16 → Consumes before after bytes → DrawsBytes Sixteen before after bytes
sixteen_drawn before after bytes long consumed = record {
  draw = record { drawn = bytes; size = long; consumed = consumed; is_repeated = refl };
  bytes = take_all 16 bytes (omega arith);
}

-- after a left half, so many right halves that are the same were drawn, and then the right half of the place
pub record HaveDrawn (n : ℕ) (before after : Option (List ℕ)) (key : List ℕ) : Type 0 where
  pub front : List ℕ
  pub long : length key ≡ 16
  pub same : AreSame (take 8 key) front n
  pub consumed : Consumes before after (take 8 key ++ (front ++ drop 8 key))

-- by one fill of both halves
pub first_drawn : (before after : Option (List ℕ)) (key : List ℕ) → length key ≡ 16 → Consumes before after key → HaveDrawn 0 before after key
first_drawn before after key long consumed = record {
  front = [];
  long = long;
  same = none_yet (take 8 key);
  consumed = subst (Consumes before after) (sym (take-append-drop 8 key)) consumed;
}

-- the right half alone is filled again
refilled : (key right : List ℕ) → length key ≡ 16 → put_mid 8 8 key right ≡ take 8 key ++ right
refilled key right long =
    let nothing_more : drop 8 (drop 8 key) ≡ [] = drop_all 8 (drop 8 key) (omega (arith, length-drop 8 key, long)) in
    ap (λ rest. take 8 key ++ (right ++ rest)) nothing_more ∙ ap (λ r. take 8 key ++ r) (append-nil right)

-- a right half that is the same is drawn again
pub drawn_again : (n : ℕ) (before between after : Option (List ℕ)) (key right : List ℕ) → length right ≡ 8 → is_same_half (take 8 key) (drop 8 key) ≡ true
    → HaveDrawn n before between key → Consumes between after right → HaveDrawn (n + 1) before after (put_mid 8 8 key right)
drawn_again n before between after key right right_long is drawn more =
    let left = take 8 key in
    let half = drop 8 key in
    let left_long : length left ≡ 8 = length-take-le 8 key (omega (arith, drawn.long)) in
    let half_long : length half ≡ 8 = length-drop 8 key ∙ omega (arith, drawn.long) in
    let same : AreSame left (drawn.front ++ half) (n + 1) = one_more_same left drawn.front half n half_long is drawn.same in
    let all : Consumes before after (left ++ (drawn.front ++ half) ++ right) = Consumes-trans before between after (left ++ (drawn.front ++ half)) right drawn.consumed more in
    subst (HaveDrawn (n + 1) before after) (sym (refilled key right drawn.long)) (record {
      front = drawn.front ++ half;
      long = length-append left right ∙ omega (arith, left_long, right_long);
      same = subst (λ l. AreSame l (drawn.front ++ half) (n + 1)) (sym (left_first left right left_long)) same;
      consumed = subst (Consumes before after)
          (append_assoc left (drawn.front ++ half) right
          ∙ (ap (λ r. left ++ (drawn.front ++ half ++ r)) (sym (right_after left right left_long))
          ∙ ap (λ l. l ++ (drawn.front ++ half ++ drop 8 (left ++ right))) (sym (left_first left right left_long))))
          all;
    })

half_whole : (key : List ℕ) → length key ≡ 16 → take 8 (drop 8 key) ≡ drop 8 key
half_whole key long = take_all 8 (drop 8 key) (omega (arith, length-drop 8 key, long))

-- a right half that differs makes the key
pub drawn_apart : (n : ℕ) (before after : Option (List ℕ)) (key : List ℕ) → n < 8 → is_same_half (take 8 key) (drop 8 key) ≡ false → HaveDrawn n before after key
    → DrawsBytes Unique before after key
drawn_apart n before after key few apart drawn =
    let long = drawn.long in
    let left = take 8 key in
    let half = drop 8 key in
    let left_long : length left ≡ 8 = length-take-le 8 key (omega arith) in
    let half_long : length half ≡ 8 = length-drop 8 key ∙ omega arith in
    let eight : n + suc (7 - n) ≡ 8 = omega arith in
    let differs : is_same_half left (take 8 half) ≡ false = ap (is_same_half left) (half_whole key long) ∙ apart in
    let count = counted left drawn.front half n (7 - n) eight drawn.same (last_where_apart (7 - n) left half differs) in
    record {
      draw = record {
        drawn = left ++ (drawn.front ++ half);
        size = long_by left drawn.front half n left_long drawn.same.long half_long ∙ sym (taken_by left drawn.front half n left_long count);
        consumed = drawn.consumed;
        is_repeated = and_right _ _ (told left drawn.front half n (7 - n) false eight left_long drawn.same (and_left _ _ differs));
      };
      bytes = take_all 16 key (omega arith) ∙ (sym (take-append-drop 8 key) ∙ sym (key_by left drawn.front half left_long half_long));
    }

-- an eighth right half that is the same is the last
pub drawn_same : (before after : Option (List ℕ)) (key : List ℕ) → is_same_half (take 8 key) (drop 8 key) ≡ true → HaveDrawn 7 before after key
    → Draws Unique before after true
drawn_same before after key same drawn =
    let long = drawn.long in
    let left = take 8 key in
    let half = drop 8 key in
    let left_long : length left ≡ 8 = length-take-le 8 key (omega arith) in
    let half_long : length half ≡ 8 = length-drop 8 key ∙ omega arith in
    let is : is_same_half left (take 8 half) ≡ true = ap (is_same_half left) (half_whole key long) ∙ same in
    let count = counted left drawn.front half 7 0 refl drawn.same (more_where_same 0 left half is) in
    let whole = long_by left drawn.front half 7 left_long drawn.same.long half_long in
    record {
      drawn = left ++ (drawn.front ++ half);
      size = whole ∙ sym (taken_by left drawn.front half 7 left_long count);
      consumed = drawn.consumed;
      is_repeated = and_from _ _ (le-leb 72 (length (left ++ (drawn.front ++ half))) (omega (arith, whole)))
          (told left drawn.front half 7 0 true refl left_long drawn.same (and_from _ _ is refl));
    }
