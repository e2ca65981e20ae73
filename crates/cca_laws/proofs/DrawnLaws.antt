-- The bytes of a generated key: they are those that the definition of a draw names.
use Rattle.std.proofs.Common.{◌≡◌, ℕ, zero, suc, ◌+◌, ◌-◌, ◌*◌, ◌/◌, ◌%◌, ◌<◌, ◌≤◌, Bool, true, false, not, ◌||◌, eqb, List, [], ◌∷◌, ◌++◌, length, map, take, drop, append_assoc, get_or, inl, inr, refl, sym, ap, ap₂, ◌∙◌, subst, true≢false, arith}
use Rattle.std.specs.Prelude.{All, count_ones}
use Rattle.std.specs.List.{concat}
use Rattle.std.proofs.lemmas.Bool.{agree_below_at, cases_Bool, cases_lt, eqb-true}
use Rattle.std.proofs.lemmas.List.{drop-drop, drop_at, length-append, length-drop, length-take-le, take-append-drop, take_all, take_at}
use Rattle.std.proofs.lemmas.List.Elements.{All-append, All-cons, All-drop, All-head, All-map, All-nil, All-tail, All-take}
use Rattle.std.proofs.lemmas.Slice.Eq.{bytes_eq-Decides}
use Rattle.cca_vectors.specs.declared.key_length.Length.{Length}
use Rattle.cca_vectors.specs.declared.key_length.Length.TheVariants.{Eight, Sixteen, Unique}
use Rattle.verb_rules.specs.Parity.{IsOdd, odd_byte}
use Rattle.verb_rules.proofs.ParityLemmas.{odd_byte_odd}
use Rattle.key_transport.specs.UniqueHalves.{halves_drawn, is_same_half, key_drawn, key_taken, repeats}
use Rattle.key_transport.proofs.HalfLemmas.{last_where_apart, more_where_same}
use Rattle.cca_laws.specs.DrawnKeys.{IsDraw, IsDrawnKey, IsOddForm, IsRepeated, IsUniqueDraw, SameButParity}
use Rattle.cca_laws.proofs.HalfLaws.{all_halved, drawn_apart, some_half}

-- ---- parity

-- a byte
abbrev pub IsByte : ℕ → Type 0
IsByte byte = byte < 256

abbrev pub halved : ℕ → ℕ
halved byte = byte / 2

pub odd_form : (bytes : List ℕ) → All IsByte bytes → IsOddForm bytes (map odd_byte bytes)
odd_form bytes are = record {
  same = sym (all_halved bytes);
  parity = All-map IsOdd odd_byte bytes (λ k d within. odd_byte_odd (get_or bytes k d) (are k d within));
}

-- a byte of odd parity is its own form
is_odd_already : (byte : ℕ) → byte < 256 → IsOdd byte → odd_byte byte ≡ byte
unfolding lib.Count.ones
is_odd_already byte fits odd =
    eqb-true (odd_byte byte) byte (either (eqb (count_ones byte % 2) 1) (eqb (odd_byte byte) byte) (ap (λ n. eqb n 1) odd)
    (agree_below_at (λ b. not (eqb (count_ones b % 2) 1) || eqb (odd_byte b) b) (λ b. true) 256 byte refl fits))
  where
    either : (odd same : Bool) → odd ≡ true → (not odd || same) ≡ true → same ≡ true
    either true same is both = both
    either false same is both = cc is

same_head : (x y : ℕ) (xs ys : List ℕ) → x ∷ xs ≡ y ∷ ys → (x ≡ y) × (xs ≡ ys)
same_head x y xs ys same = (ap (λ l. get_or l 0 0) same, ap (drop 1) same)

-- the form with odd parity is one
pub odd_form_is : (bytes odd : List ℕ) → All IsByte bytes → IsOddForm bytes odd → odd ≡ map odd_byte bytes
odd_form_is [] [] are form = refl
odd_form_is [] (y ∷ ys) are form = absurd (omega (arith, ap length form.same))
odd_form_is (x ∷ xs) [] are form = absurd (omega (arith, ap length form.same))
odd_form_is (x ∷ xs) (y ∷ ys) are form =
    let same = same_head (x / 2) (y / 2) (map halved xs) (map halved ys) form.same in
    let small : x < 256 = All-head IsByte x xs are in
    let fits : y < 256 = omega (arith, same.0, small) in
    let first : y ≡ odd_byte x =
    sym (is_odd_already y fits (All-head IsOdd y ys form.parity)) ∙ ap (λ half. half * 2 + (count_ones half + 1) % 2) (sym same.0) in
    ap₂ (λ (b : ℕ) (bs : List ℕ). b ∷ bs) first
    (odd_form_is xs ys (All-tail IsByte x xs are) (record { same = same.1; parity = All-tail IsOdd y ys form.parity }))

-- ---- halves

same_half : (one other : List ℕ) → is_same_half one other ≡ true → SameButParity one other
same_half one other is = (bytes_eq-Decides (map halved one) (map halved other)).0 is

other_half : (one other : List ℕ) → is_same_half one other ≡ false → SameButParity one other → ⊥
other_half one other differs same = true≢false (sym ((bytes_eq-Decides (map halved one) (map halved other)).1 same) ∙ differs)

-- the right halves that are drawn for a left one: some that don't differ from it, and the last one, which does
record IsRest (n : ℕ) (left ahead : List ℕ) : Type 0 where
  between : List (List ℕ)
  right : List ℕ
  order : ahead ≡ concat between ++ right
  long : length right ≡ 8
  repeated : All (IsRepeated left) between
  few : length between < n
  differs : SameButParity left right → ⊥

-- the last of so many bytes
abbrev last_of : List ℕ → List ℕ
last_of bytes = drop (length bytes - 8) bytes

last_behind : (bytes : List ℕ) → 16 ≤ length bytes → last_of (drop 8 bytes) ≡ last_of bytes
last_behind bytes long =
    let place : 8 + (length (drop 8 bytes) - 8) ≡ length bytes - 8 = omega (arith, length-drop 8 bytes, long) in
    drop-drop (length (drop 8 bytes) - 8) 8 bytes ∙ ap (λ k. drop k bytes) place

-- after a right half that doesn't differ, what the bytes behind it give
more_rest : (n : ℕ) (left ahead : List ℕ) → 16 ≤ length ahead → is_same_half left (take 8 ahead) ≡ true → IsRest n left (drop 8 ahead) → IsRest (suc n) left ahead
more_rest n left ahead many same rest = record {
  between = take 8 ahead ∷ rest.between;
  right = rest.right;
  order =
      sym (take-append-drop 8 ahead) ∙ (ap (λ l. take 8 ahead ++ l) rest.order ∙ sym (append_assoc (take 8 ahead) (concat rest.between) rest.right));
  long = rest.long;
  repeated = All-cons (IsRepeated left) (take 8 ahead) rest.between
      (record { size = length-take-le 8 ahead (omega (arith, many)); same = same_half left (take 8 ahead) same }) rest.repeated;
  few = omega (arith, rest.few);
  differs = rest.differs;
}

last_rest : (n : ℕ) (left ahead : List ℕ) → length ahead ≡ 8 → is_same_half left (take 8 ahead) ≡ false → IsRest (suc n) left ahead
last_rest n left ahead one apart = record {
  between = [];
  right = ahead;
  order = refl;
  long = one;
  repeated = All-nil (IsRepeated left);
  few = omega arith;
  differs = other_half left ahead (ap (is_same_half left) (sym (take_all 8 ahead (omega (arith, one)))) ∙ apart);
}

-- the last right half differs, so that the only one isn't the same
not_only : (left ahead : List ℕ) → length ahead ≡ 8 → is_same_half left (take 8 ahead) ≡ true → is_same_half left (last_of ahead) ≡ false → ⊥
not_only left ahead one same differs =
    let start : length ahead - 8 ≡ 0 = omega (arith, one) in
    let whole : last_of ahead ≡ take 8 ahead = ap (λ k. drop k ahead) start ∙ sym (take_all 8 ahead (omega (arith, one))) in
    true≢false (sym same ∙ (ap (is_same_half left) (sym whole) ∙ differs))

rest_is : (n : ℕ) (left ahead : List ℕ) → length ahead ≡ 8 * halves_drawn n left ahead → 8 ≤ length ahead → is_same_half left (last_of ahead) ≡ false → IsRest n left ahead
rest_is zero left ahead long some differs = absurd (omega (arith, long, some))
rest_is (suc n) left ahead long some differs =
    elim (cases_Bool (is_same_half left (take 8 ahead))) [
      | inr apart ↦ last_rest n left ahead (omega (arith, long, last_where_apart n left ahead apart)) apart
      | inl same ↦
          let count : halves_drawn (suc n) left ahead ≡ 1 + halves_drawn n left (drop 8 ahead) = more_where_same n left ahead same in
          let deeper : length (drop 8 ahead) ≡ 8 * halves_drawn n left (drop 8 ahead) = length-drop 8 ahead ∙ omega (arith, long, count) in
          elim (cases_lt (length ahead) 16) [
            | inl few ↦ absurd (not_only left ahead (omega (arith, long, few, some)) same differs)
            | inr many ↦
                more_rest n left ahead many same
                (rest_is n left (drop 8 ahead) deeper (omega (arith, length-drop 8 ahead, many)) (ap (is_same_half left) (last_behind ahead many) ∙ differs))
          ]
    ]

-- ---- a draw

-- the key is the left half and the last right one
key_by : (left between right : List ℕ) → length left ≡ 8 → length right ≡ 8 → key_drawn Unique (left ++ (between ++ right)) ≡ left ++ right
key_by left between right left_long right_long =
    let whole : List ℕ = left ++ (between ++ right) in
    let seam : length (left ++ between) ≡ length whole - 8 =
    omega (arith, length-append left between, length-append left (between ++ right), length-append between right, left_long, right_long) in
    ap (λ l. l ++ drop (length whole - 8) whole) (take_at left (between ++ right) 8 left_long)
    ∙ ap (λ r. left ++ r) (ap (drop (length whole - 8)) (sym (append_assoc left between right)) ∙ drop_at (left ++ between) right (length whole - 8) seam)

unique_draw : (drawn : List ℕ) → length drawn ≡ key_taken Unique drawn → repeats Unique drawn ≡ false → IsUniqueDraw drawn (key_drawn Unique drawn)
unique_draw drawn long differ =
    let left : List ℕ = take 8 drawn in
    let ahead : List ℕ = drop 8 drawn in
    let some : 1 ≤ halves_drawn 8 left ahead = some_half 7 left ahead in
    let enough : 16 ≤ length drawn = omega (arith, long, some) in
    let rest = rest_is 8 left ahead (length-drop 8 drawn ∙ omega (arith, long)) (omega (arith, length-drop 8 drawn, enough))
    (ap (is_same_half left) (last_behind drawn enough) ∙ drawn_apart drawn long differ) in
    let order : drawn ≡ left ++ (concat rest.between ++ rest.right) = sym (take-append-drop 8 drawn) ∙ ap (λ l. left ++ l) rest.order in
    let left_long : length left ≡ 8 = length-take-le 8 drawn (omega (arith, enough)) in
    record {
      left = left;
      between = rest.between;
      right = rest.right;
      order = order;
      left_size = left_long;
      right_size = rest.long;
      repeated = rest.repeated;
      few = rest.few;
      differs = rest.differs;
      halves = ap (key_drawn Unique) order ∙ key_by left (concat rest.between) rest.right left_long rest.long;
    }

-- the bytes that are drawn are those of a draw
pub draw_of_key : (key_length : Length) (drawn : List ℕ) → length drawn ≡ key_taken key_length drawn → repeats key_length drawn ≡ false
    → IsDraw key_length drawn (key_drawn key_length drawn)
draw_of_key Eight drawn long differ = (long, refl)
draw_of_key Sixteen drawn long differ = (long, refl)
draw_of_key Unique drawn long differ = unique_draw drawn long differ

-- and those of no other
pub draw_is : (key_length : Length) (taken bytes : List ℕ) → IsDraw key_length taken bytes → bytes ≡ key_drawn key_length taken
draw_is Eight taken bytes draw = draw.1
draw_is Sixteen taken bytes draw = draw.1
draw_is Unique taken bytes draw =
    draw.halves ∙ (sym (key_by draw.left (concat draw.between) draw.right draw.left_size draw.right_size) ∙ ap (key_drawn Unique) (sym draw.order))

-- ---- the key

pub drawn_bytes : (key_length : Length) (drawn : List ℕ) → All IsByte drawn → All IsByte (key_drawn key_length drawn)
drawn_bytes Eight drawn are = are
drawn_bytes Sixteen drawn are = are
drawn_bytes Unique drawn are =
    All-append IsByte (take 8 drawn) (last_of drawn) (All-take IsByte 8 drawn are) (All-drop IsByte (length drawn - 8) drawn are)

-- the key that random bytes make, by the definition of the machine
abbrev pub key_made : Length → List ℕ → List ℕ
key_made key_length drawn = map odd_byte (key_drawn key_length drawn)

pub is_drawn_key : (key_length : Length) (drawn : List ℕ) → length drawn ≡ key_taken key_length drawn → repeats key_length drawn ≡ false → All IsByte drawn
    → IsDrawnKey key_length drawn (key_made key_length drawn)
is_drawn_key key_length drawn long differ are = record {
  bytes = key_drawn key_length drawn;
  draw = draw_of_key key_length drawn long differ;
  odd = odd_form (key_drawn key_length drawn) (drawn_bytes key_length drawn are);
}

pub drawn_key_is : (key_length : Length) (drawn key : List ℕ) → All IsByte drawn → IsDrawnKey key_length drawn key → key ≡ key_made key_length drawn
drawn_key_is key_length drawn key are is =
    let bytes : is.bytes ≡ key_drawn key_length drawn = draw_is key_length drawn is.bytes is.draw in
    odd_form_is is.bytes key (subst (All IsByte) (sym bytes) (drawn_bytes key_length drawn are)) is.odd ∙ ap (map odd_byte) bytes

pub one_key : (key_length : Length) (drawn one other : List ℕ) → All IsByte drawn → IsDrawnKey key_length drawn one → IsDrawnKey key_length drawn other → one ≡ other
one_key key_length drawn one other are first second = drawn_key_is key_length drawn one are first ∙ sym (drawn_key_is key_length drawn other are second)
