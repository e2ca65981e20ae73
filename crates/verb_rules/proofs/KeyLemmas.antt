-- A clear key in 16 bytes, and its schedules.
use Rattle.std.proofs.Common.{◌≡◌, ℕ, ◌-◌, ◌<◌, ◌≤◌, Bool, true, false, List, [], ◌++◌, length, take, drop, eqb, replicate, sym, ap, ◌∙◌, subst, ⊎_elim, arith}
use Rattle.std.specs.Prelude.{slice_range, if◌then◌else◌}
use Rattle.std.proofs.lemmas.Bool.{eq-eqb, ne_eqb}
use Rattle.std.proofs.lemmas.List.{append-nil, take_all, take-append-le, length-drop, length-take-le}
use Rattle.std.proofs.lemmas.List.Elements.{All-take}
use Rattle.key_cells.specs.Bytes.{AreBytes}
use Rattle.cca_vectors.specs.Vectors.{left_of, right_of, length_of}
use Rattle.des_blocks.specs.Schedules.{AreOf, IsOf, schedule_at}
use Rattle.key_cells.specs.declared.schedules.Schedule.{Schedule}
use Rattle.multi_encipher.specs.declared.halves.Sealed.{Sealed}
use Rattle.multi_encipher.specs.Bundles.{key_in, with_zeros}
use Rattle.multi_encipher.specs.Seals.{IsKey, opened_half, unseal}
use Rattle.multi_encipher.proofs.SealLaws.{bytes-opened_half, length_of-cases, unseal-single, unseal-double, bytes_joined}
use Rattle.verb_rules.specs.Scheduled.{HoldKey, right_key}

-- whatever the halves, the key has the length that its vector says
pub key_of_halves : (bundle vector : List ℕ) (sealed : Sealed) → IsKey vector (unseal bundle vector sealed)
key_of_halves bundle vector sealed =
    ⊎_elim (λ (single : length_of vector ≡ 8). subst (λ n. AreBytes n (unseal bundle vector sealed)) (sym single)
    (subst (AreBytes 8) (sym (unseal-single bundle vector sealed single)) (bytes-opened_half bundle (left_of vector) sealed.left)))
    (λ (double : length_of vector ≡ 16). subst (λ n. AreBytes n (unseal bundle vector sealed)) (sym double)
    (subst (AreBytes 16) (sym (unseal-double bundle vector sealed double))
    (bytes_joined (opened_half bundle (left_of vector) sealed.left) (opened_half bundle (right_of vector) sealed.right)
    (bytes-opened_half bundle (left_of vector) sealed.left) (bytes-opened_half bundle (right_of vector) sealed.right))))
    (length_of-cases vector)

-- the halves of a key in 16 bytes
front_of : (key zeros : List ℕ) → 8 ≤ length key → slice_range (key ++ zeros) 0 8 ≡ take 8 key
front_of key zeros long = take-append-le 8 key zeros long

back_of : (key : List ℕ) → length key ≡ 16 → slice_range (key ++ []) 8 16 ≡ drop 8 key
back_of key long = ap (λ k. slice_range k 8 16) (append-nil key) ∙ take_all 8 (drop 8 key) (omega (arith, length-drop 8 key))

pub single_right : (key : List ℕ) → length key ≡ 8 → take 8 key ≡ right_key key
single_right key long = take_all 8 key (omega (arith, long)) ∙ sym (ap (λ t. if t then key else drop 8 key) (eq-eqb (length key) 8 long))

pub double_right : (key : List ℕ) → length key ≡ 16 → drop 8 key ≡ right_key key
double_right key long = sym (ap (λ t. if t then key else drop 8 key) (ne_eqb (length key) 8 (λ single. omega (arith, long, single))))

-- the schedules of the halves of 16 bytes are those of the key that stands there
pub hold_key : (schedules : List Schedule) (vector key place : List ℕ) (single : Bool) → single ≡ eqb (length_of vector) 8 → IsKey vector key → place ≡ with_zeros vector key
    → AreOf schedules (slice_range place 0 8) (if single then slice_range place 0 8 else slice_range place 8 16) (slice_range place 0 8) → HoldKey schedules key
hold_key schedules vector key place single is is_key placed made =
    ⊎_elim (λ (short : length_of vector ≡ 8).
    let long : length key ≡ 8 = is_key.size ∙ short in
    let left : slice_range place 0 8 ≡ take 8 key = ap (λ p. slice_range p 0 8) placed ∙ front_of key (replicate (16 - length_of vector) 0) (omega (arith, long)) in
    let test : single ≡ true = is ∙ eq-eqb (length_of vector) 8 short in
    let right : (if single then slice_range place 0 8 else slice_range place 8 16) ≡ right_key key =
    ap (λ t. if t then slice_range place 0 8 else slice_range place 8 16) test ∙ (left ∙ single_right key long) in
    held left right)
    (λ (two : length_of vector ≡ 16).
    let long : length key ≡ 16 = is_key.size ∙ two in
    let left : slice_range place 0 8 ≡ take 8 key = ap (λ p. slice_range p 0 8) placed ∙ front_of key (replicate (16 - length_of vector) 0) (omega (arith, long)) in
    let test : single ≡ false = is ∙ ne_eqb (length_of vector) 8 (λ short. omega (arith, two, short)) in
    let right : (if single then slice_range place 0 8 else slice_range place 8 16) ≡ right_key key =
    ap (λ t. if t then slice_range place 0 8 else slice_range place 8 16) test
    ∙ (ap (λ p. slice_range p 8 16) (placed ∙ ap (λ n. key ++ replicate (16 - n) 0) two) ∙ (back_of key long ∙ double_right key long)) in
    held left right)
    (length_of-cases vector)
  where
    held : slice_range place 0 8 ≡ take 8 key → (if single then slice_range place 0 8 else slice_range place 8 16) ≡ right_key key → HoldKey schedules key
    held left right = subst (λ l. AreOf schedules l (right_key key) l) left (subst (λ r. AreOf schedules (slice_range place 0 8) r (slice_range place 0 8)) right made)

-- the first of three schedules that hold a single-length key
pub single_held : (schedules : List Schedule) (key : List ℕ) → length key ≡ 8 → HoldKey schedules key → IsOf (schedule_at schedules 0) key
single_held schedules key long hold = subst (IsOf (schedule_at schedules 0)) (take_all 8 key (omega (arith, long))) hold.first

-- the key that stands in 16 bytes
pub key_in_place : (vector place : List ℕ) → AreBytes 16 place → IsKey vector (key_in vector place)
key_in_place vector place bytes =
    ⊎_elim (λ (single : length_of vector ≡ 8). front single (omega (arith, single)))
    (λ (double : length_of vector ≡ 16). front double (omega (arith, double)))
    (length_of-cases vector)
  where
    front : {n : ℕ} → length_of vector ≡ n → length_of vector ≤ 16 → IsKey vector (key_in vector place)
    front is small =
        let whole : length_of vector ≡ length_of vector - 0 = omega arith in
        subst (λ k. AreBytes (length_of vector) (take k place)) whole
        (record {
          size = length-take-le (length_of vector) place (omega (arith, small, bytes.size));
          each = All-take (λ b. b < 256) (length_of vector) place bytes.each;
        })
