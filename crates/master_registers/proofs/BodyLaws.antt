-- The table of the registers written and read back.
use Rattle.std.proofs.Common.{◌≡◌, ◌≤◌, ◌<◌, ◌-◌, inr, ⊎_elim, ℕ, zero, suc, ◌+◌, Bool, false, List, [], ◌∷◌, ◌++◌, length, get_or, take, drop, replicate, Option, None, Some, refl, sym, ap, subst, ◌∙◌, arith}
use Rattle.std.specs.Prelude.{IsTrue, slice_range, slice_index}
use Rattle.std.proofs.lemmas.List.{append_assoc, drop-drop, drop_at, get_or-drop, get_or-take, get_or_default, length-append, length-drop, length-take, take-append-drop, take_all, take_at}
use Rattle.key_cells.specs.Bytes.{IsZero}
use Rattle.key_cells.proofs.ByteLemmas.{zeros_of, IsZero-replicate}
use Rattle.master_registers.specs.Masters.{NewRegister, Empty, Partial, Full, Masters, IsMaster, IsMasters, AreApart, blank_masters, new_bytes, kept_bytes, state_of}
use Rattle.master_registers.specs.RegisterBody.{registers_body, blank_body, state_code, kept_code, ReadsMasters}
use Rattle.master_registers.specs.BodyForm.{coming_at, kept_at, masters_at, state_at, pattern_at, IsBody, HasBodyForm, AreMasterKeys}
use Rattle.master_registers.specs.Loaded.{pattern_in, registers_of, ArePlaced, Loaded, masters_in}
use Rattle.master_registers.proofs.LoadedLaws.{loaded_one}
use Rattle.master_registers.specs.declared.registers.NewState.{NewState}
use Rattle.master_registers.specs.declared.registers.Registers.{Registers}
use Rattle.key_cells.specs.Bench.{Bench}
use Rattle.master_registers.specs.declared.patterns.Pattern.{Pattern}
use Rattle.key_cells.proofs.AnswerLemmas.{not_true}

-- ---- a register's state and contents

pub coming-again : (r : NewRegister) → coming_at (state_code (state_of r)) (new_bytes r) ≡ r
coming-again Empty = refl
coming-again (Partial bytes) = refl
coming-again (Full bytes) = refl

pub kept-again : (r : Option (List ℕ)) → kept_at (kept_code r) (kept_bytes r) ≡ r
kept-again None = refl
kept-again (Some bytes) = refl

pub state_code-at : (n : ℕ) (bytes : List ℕ) → n ≤ 2 → state_code (state_of (coming_at n bytes)) ≡ n
state_code-at zero bytes low = refl
state_code-at (suc zero) bytes low = refl
state_code-at (suc (suc zero)) bytes low = refl
state_code-at (suc (suc (suc n))) bytes low = absurd (omega arith)

pub kept_code-at : (n : ℕ) (bytes : List ℕ) → n ≤ 1 → kept_code (kept_at n bytes) ≡ n
kept_code-at zero bytes low = refl
kept_code-at (suc zero) bytes low = refl
kept_code-at (suc (suc n)) bytes low = absurd (omega arith)

zeros : (bytes : List ℕ) → length bytes ≡ 24 → IsZero bytes → bytes ≡ replicate 24 0
zeros bytes long blank = zeros_of 24 bytes long blank

pub new_bytes-at : (n : ℕ) (bytes : List ℕ) → length bytes ≡ 24 → (n ≡ 0 → IsZero bytes) → new_bytes (coming_at n bytes) ≡ bytes
new_bytes-at zero bytes long empty = sym (zeros bytes long (empty refl))
new_bytes-at (suc zero) bytes long empty = refl
new_bytes-at (suc (suc n)) bytes long empty = refl

pub kept_bytes-at : (n : ℕ) (bytes : List ℕ) → length bytes ≡ 24 → (n ≡ 0 → IsZero bytes) → kept_bytes (kept_at n bytes) ≡ bytes
kept_bytes-at zero bytes long empty = sym (zeros bytes long (empty refl))
kept_bytes-at (suc n) bytes long empty = refl

pub state_of-at : (n : ℕ) (bytes : List ℕ) → state_at n ≡ state_of (coming_at n bytes)
state_of-at zero bytes = refl
state_of-at (suc zero) bytes = refl
state_of-at (suc (suc n)) bytes = refl

pub pattern_in-at : (n : ℕ) (bytes : List ℕ) → pattern_at n bytes ≡ pattern_in (kept_at n bytes)
pattern_in-at zero bytes = refl
pattern_in-at (suc n) bytes = refl

new_empty : (r : NewRegister) → state_code (state_of r) ≡ 0 → new_bytes r ≡ replicate 24 0
new_empty Empty none = refl
new_empty (Partial bytes) none = absurd (omega arith)
new_empty (Full bytes) none = absurd (omega arith)

kept_empty : (r : Option (List ℕ)) → kept_code r ≡ 0 → kept_bytes r ≡ replicate 24 0
kept_empty None none = refl
kept_empty (Some bytes) none = absurd (omega arith)

abbrev made : NewRegister → Option (List ℕ) → Option (List ℕ) → Masters
made coming current former = record { coming = coming; current = current; former = former }

-- ---- the pieces of a table

piece : (front mid back : List ℕ) (n k : ℕ) → length front ≡ n → length mid ≡ k → take k (drop n (front ++ mid ++ back)) ≡ mid
piece front mid back n k before long =
    ap (λ l. take k (drop n l)) (append_assoc front mid back)
    ∙ ap (take k) (drop_at front (mid ++ back) n before)
    ∙ take_at mid back k long

module _ (m : Masters) (valid : IsMasters m) where
  pub piece-coming : slice_range (registers_body m) 8 32 ≡ new_bytes m.coming
  unfolding registers_body
  piece-coming =
      ap (take 24) (append_assoc (new_bytes m.coming ++ kept_bytes m.current) (kept_bytes m.former) (replicate 112 0) ∙ append_assoc (new_bytes m.coming) (kept_bytes m.current) (kept_bytes m.former ++ replicate 112 0))
      ∙ take_at (new_bytes m.coming) (kept_bytes m.current ++ (kept_bytes m.former ++ replicate 112 0)) 24 valid.coming.size

  pub piece-current : slice_range (registers_body m) 32 56 ≡ kept_bytes m.current
  unfolding registers_body
  piece-current =
      ap (λ l. take 24 (drop 24 l)) (append_assoc (new_bytes m.coming ++ kept_bytes m.current) (kept_bytes m.former) (replicate 112 0))
      ∙ piece (new_bytes m.coming) (kept_bytes m.current) (kept_bytes m.former ++ replicate 112 0) 24 24 valid.coming.size valid.current.size

  pub piece-former : slice_range (registers_body m) 56 80 ≡ kept_bytes m.former
  unfolding registers_body
  piece-former =
      piece (new_bytes m.coming ++ kept_bytes m.current) (kept_bytes m.former) (replicate 112 0) 48 24
      (length-append (new_bytes m.coming) (kept_bytes m.current) ∙ omega (arith, valid.coming.size, valid.current.size)) valid.former.size

  piece-rest : slice_range (registers_body m) 80 192 ≡ replicate 112 0
  unfolding registers_body
  piece-rest =
      ap (take 112) (drop_at (new_bytes m.coming ++ kept_bytes m.current ++ kept_bytes m.former) (replicate 112 0) 72
      (length-append (new_bytes m.coming ++ kept_bytes m.current) (kept_bytes m.former) ∙ omega (arith, length-append (new_bytes m.coming) (kept_bytes m.current), valid.coming.size, valid.current.size, valid.former.size)))

  -- the registers that stand in a table are those whose table it is
  pub masters-again : masters_at (registers_body m) ≡ m
  unfolding masters_at registers_body
  masters-again =
      let coming : coming_at (state_code (state_of m.coming)) (slice_range (registers_body m) 8 32) ≡ m.coming = ap (coming_at (state_code (state_of m.coming))) piece-coming ∙ coming-again m.coming in
      let current : kept_at (kept_code m.current) (slice_range (registers_body m) 32 56) ≡ m.current = ap (kept_at (kept_code m.current)) piece-current ∙ kept-again m.current in
      let former : kept_at (kept_code m.former) (slice_range (registers_body m) 56 80) ≡ m.former = ap (kept_at (kept_code m.former)) piece-former ∙ kept-again m.former in
      same_masters (masters_at (registers_body m)) m coming current former
    where
      same_masters : (a b : Masters) → a.coming ≡ b.coming → a.current ≡ b.current → a.former ≡ b.former → a ≡ b
      same_masters a b coming current former =
          let same : made a.coming a.current a.former ≡ made b.coming b.current b.former = cc in
          same

  -- a table has the form
  pub form_of_table : HasBodyForm (registers_body m)
  unfolding registers_body
  form_of_table = record {
    states = record { version = refl; coming = new_low m.coming; current = kept_low m.current; former = kept_low m.former };
    gap = IsZero-replicate 4;
    coming = λ none. all_zero (slice_range (registers_body m) 8 32) 24 (piece-coming ∙ new_empty m.coming none);
    current = λ none. all_zero (slice_range (registers_body m) 32 56) 24 (piece-current ∙ kept_empty m.current none);
    former = λ none. all_zero (slice_range (registers_body m) 56 80) 24 (piece-former ∙ kept_empty m.former none);
    rest = all_zero (slice_range (registers_body m) 80 192) 112 piece-rest;
  }
    where
      new_low : (r : NewRegister) → state_code (state_of r) ≤ 2
      new_low Empty = omega arith
      new_low (Partial bytes) = omega arith
      new_low (Full bytes) = omega arith

      kept_low : (r : Option (List ℕ)) → kept_code r ≤ 1
      kept_low None = omega arith
      kept_low (Some bytes) = omega arith

      all_zero : (bytes : List ℕ) (n : ℕ) → bytes ≡ replicate n 0 → IsZero bytes
      all_zero bytes n is = subst IsZero (sym is) (IsZero-replicate n)

-- one more piece of a list
more : (l front : List ℕ) (k n : ℕ) → l ≡ front ++ drop k l → l ≡ front ++ take n (drop k l) ++ drop (k + n) l
more l front k n is =
    is ∙ ap (λ r. front ++ r) (sym (take-append-drop n (drop k l)))
    ∙ sym (append_assoc front (take n (drop k l)) (drop n (drop k l)))
    ∙ ap (λ r. front ++ take n (drop k l) ++ r) (drop-drop n k l)

pub length-piece : (body : List ℕ) (at : ℕ) → length body ≡ 192 → at + 24 ≤ 192 → length (slice_range body at (at + 24)) ≡ 24
length-piece body at long within = simp (length-take, length-drop) (omega arith)

pub long_piece : (body : List ℕ) (at : ℕ) → length body ≡ 192 → at + 24 ≤ 192 → 24 ≤ length (slice_range body at (at + 24))
long_piece body at long within = omega (arith, length-piece body at long within)

pub first_piece : (body : List ℕ) (at : ℕ) → length body ≡ 192 → at + 24 ≤ 192 → take 24 (slice_range body at (at + 24)) ≡ slice_range body at (at + 24)
first_piece body at long within = take_all 24 (slice_range body at (at + 24)) (omega (arith, length-piece body at long within))

pub master_piece : (body : List ℕ) (at : ℕ) → IsBody body → at + 24 ≤ 192 → IsMaster (slice_range body at (at + 24))
master_piece body at bytes within = record {
  size = length-piece body at bytes.size within;
  each = λ k d inside. subst (λ b. b < 256)
      (sym (get_or-take (at + 24 - at) (drop at body) k 0 (omega (arith, length-piece body at bytes.size within)) ∙ get_or-drop at body k 0)
      ∙ get_or_default (slice_range body at (at + 24)) k 0 d inside)
      (bytes.each (at + k));
}

-- a body in the form is the table of what stands in it
pub table_of_form : (body : List ℕ) → length body ≡ 192 → HasBodyForm body → body ≡ registers_body (masters_at body)
unfolding registers_body masters_at
table_of_form [] long form = absurd (omega arith)
table_of_form (a ∷ []) long form = absurd (omega arith)
table_of_form (a ∷ b ∷ []) long form = absurd (omega arith)
table_of_form (a ∷ b ∷ c ∷ []) long form = absurd (omega arith)
table_of_form (a ∷ b ∷ c ∷ d ∷ rest) long form =
    let body : List ℕ = a ∷ b ∷ c ∷ d ∷ rest in
    let x : List ℕ = slice_range body 8 32 in
    let y : List ℕ = slice_range body 32 56 in
    let z : List ℕ = slice_range body 56 80 in
    let four : length (take 4 rest) ≡ 4 = simp length-take (omega arith) in
    let gap : take 4 rest ≡ replicate 4 0 = zeros_of 4 (take 4 rest) four form.gap in
    let many : length (take 112 (drop 76 rest)) ≡ 112 = simp (length-take, length-drop) (omega arith) in
    let last : take 112 (drop 76 rest) ≡ replicate 112 0 = zeros_of 112 (take 112 (drop 76 rest)) many form.rest in
    let coming : new_bytes (coming_at b x) ≡ x = new_bytes-at b x (length-piece body 8 long (omega arith)) form.coming in
    let current : kept_bytes (kept_at c y) ≡ y = kept_bytes-at c y (length-piece body 32 long (omega arith)) form.current in
    let former : kept_bytes (kept_at d z) ≡ z = kept_bytes-at d z (length-piece body 56 long (omega arith)) form.former in
    let whole : rest ≡ replicate 4 0 ++ new_bytes (coming_at b x) ++ kept_bytes (kept_at c y) ++ kept_bytes (kept_at d z) ++ replicate 112 0 =
    pieces rest (omega arith)
    ∙ ap (λ g. g ++ x ++ y ++ z ++ take 112 (drop 76 rest)) gap
    ∙ ap (λ l. replicate 4 0 ++ x ++ y ++ z ++ l) last
    ∙ ap (λ l. replicate 4 0 ++ l ++ y ++ z ++ replicate 112 0) (sym coming)
    ∙ ap (λ l. replicate 4 0 ++ new_bytes (coming_at b x) ++ l ++ z ++ replicate 112 0) (sym current)
    ∙ ap (λ l. replicate 4 0 ++ new_bytes (coming_at b x) ++ kept_bytes (kept_at c y) ++ l ++ replicate 112 0) (sym former) in
    ap (λ n. n ∷ b ∷ c ∷ d ∷ rest) form.states.version
    ∙ ap (λ n. 1 ∷ n ∷ c ∷ d ∷ rest) (sym (state_code-at b x form.states.coming))
    ∙ ap (λ n. 1 ∷ state_code (state_of (coming_at b x)) ∷ n ∷ d ∷ rest) (sym (kept_code-at c y form.states.current))
    ∙ ap (λ n. 1 ∷ state_code (state_of (coming_at b x)) ∷ kept_code (kept_at c y) ∷ n ∷ rest) (sym (kept_code-at d z form.states.former))
    ∙ ap (λ l. 1 ∷ state_code (state_of (coming_at b x)) ∷ kept_code (kept_at c y) ∷ kept_code (kept_at d z) ∷ l) whole
  where
    pieces : (rest : List ℕ) → length rest ≡ 188
        → rest ≡ take 4 rest ++ take 24 (drop 4 rest) ++ take 24 (drop 28 rest) ++ take 24 (drop 52 rest) ++ take 112 (drop 76 rest)
    pieces rest long =
        let last : take 112 (drop 76 rest) ≡ drop 76 rest = take_all 112 (drop 76 rest) (omega (arith, length-drop 76 rest)) in
        let first : rest ≡ take 4 rest ++ drop 4 rest = sym (take-append-drop 4 rest) in
        let second : rest ≡ take 4 rest ++ take 24 (drop 4 rest) ++ drop 28 rest = more rest (take 4 rest) 4 24 first in
        let third : rest ≡ take 4 rest ++ take 24 (drop 4 rest) ++ take 24 (drop 28 rest) ++ drop 52 rest = more rest (take 4 rest ++ take 24 (drop 4 rest)) 28 24 second in
        more rest (take 4 rest ++ take 24 (drop 4 rest) ++ take 24 (drop 28 rest)) 52 24 third
        ∙ ap (λ l. take 4 rest ++ take 24 (drop 4 rest) ++ take 24 (drop 28 rest) ++ take 24 (drop 52 rest) ++ l) (sym last)

zero_one : 0 ≡ suc 0 → ⊥
zero_one is = cc

-- a body reads as at most one set of registers
pub reads_one : (bytes : List ℕ) (m n : Masters) → ReadsMasters bytes m → ReadsMasters bytes n → m ≡ n
unfolding registers_body
reads_one bytes m n first second =
    ⊎_elim (λ (blank : (bytes ≡ blank_body) × (m ≡ blank_masters)).
    ⊎_elim (λ (too : (bytes ≡ blank_body) × (n ≡ blank_masters)). blank.1 ∙ sym too.1)
    (λ (table : (bytes ≡ registers_body n) × IsMasters n). absurd (not_blank n (sym blank.0 ∙ table.0))) second)
    (λ (table : (bytes ≡ registers_body m) × IsMasters m).
    ⊎_elim (λ (blank : (bytes ≡ blank_body) × (n ≡ blank_masters)). absurd (not_blank m (sym blank.0 ∙ table.0)))
    (λ (too : (bytes ≡ registers_body n) × IsMasters n).
    sym (masters-again m table.1) ∙ ap masters_at (sym table.0 ∙ too.0) ∙ masters-again n too.1) second)
    first
  where
    not_blank : (n : Masters) → blank_body ≡ registers_body n → ⊥
    not_blank n is = let head : get_or blank_body 0 0 ≡ get_or (registers_body n) 0 0 = ap (λ l. get_or l 0 0) is in absurd (zero_one head)

-- ---- the registers taken from a body in the form

module _ (body : List ℕ) (form : HasBodyForm body) (bytes : IsBody body) where
  coming_taken : new_bytes (coming_at (slice_index body 1) (slice_range body 8 32)) ≡ slice_range body 8 32
  coming_taken = new_bytes-at (slice_index body 1) (slice_range body 8 32) (length-piece body 8 bytes.size (omega arith)) form.coming

  current_taken : kept_bytes (kept_at (slice_index body 2) (slice_range body 32 56)) ≡ slice_range body 32 56
  current_taken = kept_bytes-at (slice_index body 2) (slice_range body 32 56) (length-piece body 32 bytes.size (omega arith)) form.current

  former_taken : kept_bytes (kept_at (slice_index body 3) (slice_range body 56 80)) ≡ slice_range body 56 80
  former_taken = kept_bytes-at (slice_index body 3) (slice_range body 56 80) (length-piece body 56 bytes.size (omega arith)) form.former

  pub placed_taken : (bench : Bench) → bench.coming ≡ slice_range body 8 32 → bench.current ≡ slice_range body 32 56 → bench.former ≡ slice_range body 56 80
      → ArePlaced (masters_at body) bench
  unfolding masters_at
  placed_taken bench coming current former = record { coming = coming ∙ sym coming_taken; current = current ∙ sym current_taken; former = former ∙ sym former_taken }

  pub keys_taken : AreMasterKeys (masters_at body)
  unfolding masters_at
  keys_taken = record {
    coming = subst IsMaster (sym coming_taken) (master_piece body 8 bytes (omega arith));
    current = subst IsMaster (sym current_taken) (master_piece body 32 bytes (omega arith));
    former = subst IsMaster (sym former_taken) (master_piece body 56 bytes (omega arith));
  }

abbrev pub registers_made : NewState → Option Pattern → Option Pattern → Registers
registers_made state current old = record { new_state = state; current_pattern = current; old_pattern = old }

pub told_taken : (body : List ℕ) (state : NewState) (current old : Option Pattern)
    → state ≡ state_at (slice_index body 1) → current ≡ pattern_at (slice_index body 2) (slice_range body 32 56) → old ≡ pattern_at (slice_index body 3) (slice_range body 56 80)
    → registers_made state current old ≡ registers_of (masters_at body)
unfolding masters_at
told_taken body state current old is_state is_current is_old =
    ap (λ s. registers_made s current old) (is_state ∙ state_of-at (slice_index body 1) (slice_range body 8 32))
    ∙ ap (λ p. registers_made (state_of (masters_at body).coming) p old) (is_current ∙ pattern_in-at (slice_index body 2) (slice_range body 32 56))
    ∙ ap (λ p. registers_made (state_of (masters_at body).coming) (pattern_in (masters_at body).current) p) (is_old ∙ pattern_in-at (slice_index body 3) (slice_range body 56 80))

-- a body that is neither blank nor in the form reads as nothing
pub unread : (body copy again : List ℕ) (is_zero is_form : Bool) → copy ≡ body → again ≡ body → is_zero ≡ false → (IsZero copy → IsTrue is_zero)
    → is_form ≡ false → (HasBodyForm again → IsTrue is_form) → (m : Masters) → ReadsMasters body m → ⊥
unread body copy again is_zero is_form same too zero_is blank_zero form_is form m reads =
    ⊎_elim (λ (blank : (body ≡ blank_body) × (m ≡ blank_masters)). not_true is_zero zero_is (blank_zero (subst IsZero (sym (same ∙ blank.0)) (IsZero-replicate 192))))
    (λ (table : (body ≡ registers_body m) × IsMasters m). not_true is_form form_is (form (subst HasBodyForm (sym (too ∙ table.0)) (form_of_table m table.1))))
    reads

-- the registers of a table, of which the patterns are looked at
valid_as : (m : Masters) → AreMasterKeys m → AreApart m.current m.former → IsMasters m
valid_as m keys apart = record { coming = keys.coming; current = keys.current; former = keys.former; apart = apart }

read_as : (body : List ℕ) → IsBody body → HasBodyForm body → AreMasterKeys (masters_at body) → AreApart (masters_at body).current (masters_at body).former
    → ReadsMasters body (masters_at body)
read_as body bytes form keys apart = inr (table_of_form body bytes.size form, valid_as (masters_at body) keys apart)

-- a body that isn't blank reads as what stands in it alone
pub reads_table : (body : List ℕ) (m : Masters) → (IsZero body → ⊥) → ReadsMasters body m → (m ≡ masters_at body) × IsMasters m
reads_table body m not_zero reads =
    ⊎_elim (λ (blank : (body ≡ blank_body) × (m ≡ blank_masters)). absurd (not_zero (subst IsZero (sym blank.0) (IsZero-replicate 192))))
    (λ (table : (body ≡ registers_body m) × IsMasters m). (sym (masters-again m table.1) ∙ ap masters_at (sym table.0), table.1))
    reads

pub too_close : (body copy : List ℕ) (is_zero is_apart : Bool) → copy ≡ body → is_zero ≡ false → (IsZero copy → IsTrue is_zero) → is_apart ≡ false
    → (AreApart (masters_at body).current (masters_at body).former → IsTrue is_apart) → (m : Masters) → ReadsMasters body m → ⊥
too_close body copy is_zero is_apart same zero_is blank_zero apart_is apart m reads =
    let read : (m ≡ masters_at body) × IsMasters m = reads_table body m (λ blank. not_true is_zero zero_is (blank_zero (subst IsZero (sym same) blank))) reads in
    not_true is_apart apart_is (apart (subst (λ (n : Masters). AreApart n.current n.former) read.0 read.1.apart))

-- the registers that were taken from a body are those that the bench holds
module _ (body : List ℕ) (held : Registers) (bench : Bench) (keys : AreMasterKeys (masters_at body)) (apart : AreApart (masters_at body).current (masters_at body).former)
    (placed : ArePlaced (masters_at body) bench) (told : held ≡ registers_of (masters_at body)) where
  loaded_at : Loaded (masters_at body) held bench
  loaded_at = record { valid = valid_as (masters_at body) keys apart; placed = placed; told = told }

  pub loaded_taken : Loaded (masters_in held bench) held bench
  loaded_taken = subst (λ (m : Masters). Loaded m held bench) (sym (loaded_one (masters_at body) held bench loaded_at)) loaded_at

  pub reads_taken : IsBody body → HasBodyForm body → ReadsMasters body (masters_in held bench)
  reads_taken bytes form = subst (ReadsMasters body) (sym (loaded_one (masters_at body) held bench loaded_at)) (read_as body bytes form keys apart)
