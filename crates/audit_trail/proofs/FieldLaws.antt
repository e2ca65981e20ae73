-- Texts filled with zeros, and how a text is found again by the first zero behind it.
use Rattle.std.proofs.Common.{◌≡◌, ◌↔◌, ◌≤◌, ◌<◌, ◌+◌, ◌-◌, inl, inr, ⊎_elim, ℕ, zero, suc, Bool, true, false, not, eqb, List, [], ◌∷◌, ◌++◌, length, take, drop, replicate, refl, sym, ap, subst, ◌∙◌, arith}
use Rattle.std.proofs.lemmas.Bool.{both_ways, ne_eqb, and_parts, lt-ltb, le-ltb, cases_lt}
use Rattle.std.proofs.lemmas.List.{length-append, length-replicate, length-drop, length-take, take_at, drop_at, take_all, take-append-drop}
use Rattle.std.proofs.lemmas.List.Sums.{list_all-from_AllPass, prefix_len-le-length}
use Rattle.std.specs.List.{list_all, position_or_len}
use Rattle.std.specs.Prelude.{IsTrue, nat_le, unwrap_or, position, None, Some, ◌==◌, ◌&&◌, if◌then◌else◌}
use Rattle.key_cells.specs.Bytes.{IsZero}
use Rattle.cca_roles.specs.Characters.{is_letter}
use Rattle.cca_roles.specs.Names.{is_label, IsLabel, starts_name, is_name_byte, is_role_name, IsRoleName}
use Rattle.cca_roles.specs.NameLaws.{label_short, role_short}
use Rattle.key_cells.proofs.ByteLemmas.{zeros_of, IsZero-replicate}
use Rattle.audit_trail.specs.Entries.{filled, IsVerb, HoldsText, HoldsLabel, IsEntry}
use Rattle.audit_trail.specs.declared.entries.Entry.{Entry}

-- ---- how long texts and fields are

pub role_bytes : (text : List ℕ) → IsRoleName text → list_all is_name_byte text ≡ true
unfolding is_role_name
role_bytes text is =
    (and_parts (starts_name text && nat_le (length text) 8) (list_all is_name_byte text) is).1

pub label_some : (text : List ℕ) → IsLabel text → length text ≡ 0 → ⊥
unfolding is_label
label_some [] is none = let wrong : false ≡ true = is in cc
label_some (c ∷ cs) is none = omega (arith, none)

pub verb_letters : (text : List ℕ) → IsVerb text → list_all is_letter text ≡ true
verb_letters text is = list_all-from_AllPass is_letter text is.letters

pub long_filled : (n : ℕ) (text : List ℕ) → length text ≤ n → length (filled n text) ≡ n
long_filled n text short = length-append text (replicate (n - length text) 0) ∙ omega (arith, length-replicate {A = ℕ} (n - length text) 0)

pub long_field : (n : ℕ) (P : List ℕ → Type 0) (field : List ℕ) → ((text : List ℕ) → P text → length text ≤ n) → HoldsText n P field → length field ≡ n
long_field n P field short (inl blank) = ap length blank ∙ length-replicate {A = ℕ} n 0
long_field n P field short (inr held) = ap length held.2 ∙ long_filled n held.0 (short held.0 held.1)

pub long_label : (n : ℕ) (field : List ℕ) → HoldsLabel n field → length field ≡ 64
long_label n field (inl blank) = ap length blank.1 ∙ length-replicate {A = ℕ} 64 0
long_label n field (inr held) = ap length held.3 ∙ long_filled 64 held.0 (label_short held.0 held.1)

module _ (e : Entry) (is : IsEntry e) where
  pub role_size : length e.role ≡ 8
  role_size = long_field 8 IsRoleName e.role role_short is.role

  pub verb_size : length e.verb ≡ 10
  verb_size = long_field 10 IsVerb e.verb (λ text verb. verb.most) is.verb

  pub label_size : length e.label ≡ 64
  label_size = long_label e.label_length e.label is.label

-- ---- a text and the zeros behind it

-- a field is what stands before a place, filled with zeros, where zeros are behind
pub filled_from : (n at : ℕ) (field : List ℕ) → length field ≡ n → at ≤ n → IsZero (drop at field) → field ≡ filled n (take at field)
filled_from n at field long within zeros =
    let front : length (take at field) ≡ at = simp length-take (omega arith) in
    let behind : length (drop at field) ≡ n - length (take at field) = length-drop at field ∙ omega (arith, long, front) in
    sym (take-append-drop at field) ∙ ap (λ b. take at field ++ b) (zeros_of (n - length (take at field)) (drop at field) behind zeros)

text_again : (n : ℕ) (text field : List ℕ) → field ≡ filled n text → take (length text) field ≡ text
text_again n text field is = ap (take (length text)) is ∙ take_at text (replicate (n - length text) 0) (length text) refl

zeros_behind : (n : ℕ) (text field : List ℕ) → field ≡ filled n text → IsZero (drop (length text) field)
zeros_behind n text field is =
    subst IsZero (sym (ap (drop (length text)) is ∙ drop_at text (replicate (n - length text) 0) (length text) refl)) (IsZero-replicate (n - length text))

nonzero : (p : ℕ → Bool) → p 0 ≡ false → (c : ℕ) → p c ≡ true → eqb c 0 ≡ false
nonzero p none c passes = ne_eqb c 0 (λ is. both_ways (p c) (ap p is ∙ none) passes)

-- the first zero stands right behind a text without zeros
first_zero : (p : ℕ → Bool) → p 0 ≡ false → (text : List ℕ) (k : ℕ) → list_all p text ≡ true → position_or_len (λ byte. byte == 0) (text ++ replicate k 0) ≡ length text
first_zero p none [] zero all = refl
first_zero p none [] (suc k) all = refl
first_zero p none (c ∷ cs) k all =
    let parts = and_parts (p c) (list_all p cs) all in
    ap (λ (t : Bool). if not t then 1 + position_or_len (λ byte. byte == 0) (cs ++ replicate k 0) else 0) (nonzero p none c parts.0) ∙ ap (λ (n : ℕ). 1 + n) (first_zero p none cs k parts.1) ∙ omega arith

pub within_field : (p : ℕ → Bool) (xs : List ℕ) → position_or_len p xs ≤ length xs
within_field p xs = prefix_len-le-length (λ x. not (p x)) xs

-- `position` gives it, where there is a zero
pub before_first : (p : ℕ → Bool) (xs : List ℕ) → unwrap_or (position p xs) (length xs) ≡ position_or_len p xs
before_first p xs = ⊎_elim
    (λ (some : position_or_len p xs < length xs). ap (λ (t : Bool). unwrap_or (if t then Some (position_or_len p xs) else None) (length xs)) (lt-ltb (position_or_len p xs) (length xs) some))
    (λ (none : length xs ≤ position_or_len p xs).
    ap (λ (t : Bool). unwrap_or (if t then Some (position_or_len p xs) else None) (length xs)) (le-ltb (position_or_len p xs) (length xs) none)
    ∙ omega (arith, none, within_field p xs))
    (cases_lt (position_or_len p xs) (length xs))

-- ---- a field that is read

module _ (P : List ℕ → Type 0) (p : ℕ → Bool) (none : p 0 ≡ false) (each : (text : List ℕ) → P text → list_all p text ≡ true) (n : ℕ) (field : List ℕ) (at : ℕ)
    (is_at : at ≡ position_or_len (λ byte. byte == 0) field) where
  pub text_in : (text : List ℕ) → P text → field ≡ filled n text → P (take at field) × IsZero (drop at field)
  text_in text is filling =
      let here : at ≡ length text = is_at ∙ ap (position_or_len (λ byte. byte == 0)) filling ∙ first_zero p none text (n - length text) (each text is) in (
        subst (λ (k : ℕ). P (take k field)) (sym here) (subst P (sym (text_again n text field filling)) is),
        subst (λ (k : ℕ). IsZero (drop k field)) (sym here) (zeros_behind n text field filling),
      )

  -- where the field isn't zero and a text stands before the first zero, it is the zeros behind that decide
  pub by_zeros : length field ≡ n → at ≤ length field → (blank zeros : Bool) → blank ≡ false → (IsTrue blank ↔ IsZero field) → P (take at field) → (IsTrue zeros ↔ IsZero (take (n - at) (drop at field))) → IsTrue zeros ↔ HoldsText n P field
  by_zeros long within blank zeros some of_blank text of_zeros = (
    λ yes. inr (take at field, text, filled_from n at field long (omega (arith, long, within)) (subst IsZero behind (of_zeros.0 yes))),
    back,
  )
    where
      behind : take (n - at) (drop at field) ≡ drop at field
      behind = take_all (n - at) (drop at field) (omega (arith, long, length-drop at field))

      back : HoldsText n P field → IsTrue zeros
      back (inl is) = absurd (both_ways blank some (of_blank.1 (subst IsZero (sym is) (IsZero-replicate n))))
      back (inr held) = of_zeros.1 (subst IsZero (sym behind) (text_in held.0 held.1 held.2).1)

  -- where no text stands before it, there is none
  pub by_text : (blank text : Bool) → blank ≡ false → (IsTrue blank ↔ IsZero field) → text ≡ false → (P (take at field) → ⊥) → IsTrue text ↔ HoldsText n P field
  by_text blank text some of_blank other refused = (λ yes. absurd (both_ways text other yes), back)
    where
      back : HoldsText n P field → IsTrue text
      back (inl is) = absurd (both_ways blank some (of_blank.1 (subst IsZero (sym is) (IsZero-replicate n))))
      back (inr held) = absurd (refused (text_in held.0 held.1 held.2).0)

-- ---- a label that is read by its length

pub label_in : (n : ℕ) (field : List ℕ) → HoldsLabel n field → (n ≡ 0 → ⊥) → IsLabel (take n field) × IsZero (drop n field)
label_in n field (inl blank) some = absurd (some blank.0)
label_in n field (inr held) some = (
  subst (λ (k : ℕ). IsLabel (take k field)) (sym held.2) (subst IsLabel (sym (text_again 64 held.0 field held.3)) held.1),
  subst (λ (k : ℕ). IsZero (drop k field)) (sym held.2) (zeros_behind 64 held.0 field held.3),
)

module _ (n : ℕ) (field : List ℕ) where
  pub label_blank : n ≡ 0 → length field ≡ 64 → IsZero field ↔ HoldsLabel n field
  label_blank is long = (λ zeros. inl (is, zeros_of 64 field long zeros), back)
    where
      back : HoldsLabel n field → IsZero field
      back (inl blank) = subst IsZero (sym blank.1) (IsZero-replicate 64)
      back (inr held) = absurd (label_some held.0 held.1 (sym held.2 ∙ is))

  pub label_beyond : 64 < n → HoldsLabel n field → ⊥
  label_beyond above (inl blank) = omega (arith, above, blank.0)
  label_beyond above (inr held) = omega (arith, above, held.2, label_short held.0 held.1)

  -- where a label stands at the front, it is the zeros behind that decide
  pub label_by_zeros : length field ≡ 64 → (n ≡ 0 → ⊥) → n ≤ 64 → IsLabel (take n field)
      → (IsZero (take (64 - n) (drop n field))) ↔ HoldsLabel n field
  label_by_zeros long some within label = (
    λ zeros. inr (
      take n field,
      label,
      sym (length-take n field ∙ omega (arith, long, within)),
      filled_from 64 n field long within (subst IsZero behind zeros),
    ),
    λ held. subst IsZero (sym behind) (label_in n field held some).1,
  )
    where
      behind : take (64 - n) (drop n field) ≡ drop n field
      behind = take_all (64 - n) (drop n field) (omega (arith, long, length-drop n field))
