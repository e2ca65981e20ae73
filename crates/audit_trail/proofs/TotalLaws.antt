-- The bytes of a trail stand for entries, or else they have a first damaged cell.
use Rattle.std.proofs.Common.{◌≡◌, ◌≤◌, ◌<◌, ◌+◌, ◌%◌, ◌^◌, ◌⊎◌, inl, inr, ⊎_elim, ℕ, zero, suc, Bool, true, false, List, Option, None, Some, refl, sym, ap, subst, ◌∙◌, arith}
use Rattle.std.specs.Prelude.{◌≢◌, ◌==◌, replicate, take, drop, length}
use Rattle.std.specs.List.{list_all, position_or_len}
use Rattle.std.proofs.lemmas.List.{length-take}
use Rattle.std.proofs.lemmas.List.Sums.{AllPass-from_list_all}
use Rattle.std.proofs.lemmas.Bool.{cases_eq, cases_lt}
use Rattle.device_cells.specs.Cells.{body}
use Rattle.key_cells.specs.Bytes.{IsZero}
use Rattle.cca_roles.specs.Characters.{is_letter}
use Rattle.cca_roles.specs.Names.{is_label, is_role_name, is_name_byte, IsLabel, IsRoleName}
use Rattle.audit_trail.specs.Entries.{IsEntry, IsVerb, HoldsText, HoldsLabel}
use Rattle.audit_trail.specs.Opening.{CellReads, Scanned, Checked, newest_number, greater}
use Rattle.audit_trail.specs.Reading.{record_in}
use Rattle.audit_trail.specs.RecordBody.{record_body, blank_body, Spells}
use Rattle.audit_trail.specs.TrailStands.{StandsForTrail, IsStray, IsFirstDamaged}
use Rattle.audit_trail.specs.declared.entries.Entry.{Entry}
use Rattle.audit_trail.specs.declared.bodies.Record.{Record}
use Rattle.cca_roles.specs.NameLaws.{label_short, role_short}
use Rattle.audit_trail.proofs.FieldLaws.{role_bytes, verb_letters, label_some, long_field, long_label, filled_from, within_field, text_in, label_in}
use Rattle.audit_trail.proofs.BodyLaws.{spelled_in}
use Rattle.audit_trail.proofs.OpeningLaws.{scanned_none, scanned_more, stray_first, stray_here, checked_none, checked_more, stale_first, stands_blank, stands_checked}
use Rattle.cca_roles.proofs.DecidableLaws.{Decidable, both_decidable, by_bool, like, same_bytes}

-- ---- what is decided

some_zeros : (bytes : List ℕ) → Decidable (IsZero bytes)
some_zeros bytes = same_bytes bytes (replicate (length bytes) 0)

decided_below : (a b : ℕ) → Decidable (a < b)
decided_below a b = ⊎_elim (λ (below : a < b). inl below) (λ (above : b ≤ a). inr (λ below. omega (arith, above, below))) (cases_lt a b)

decided_up_to : (a b : ℕ) → Decidable (a ≤ b)
decided_up_to a b = ⊎_elim (λ (above : b < a). inr (λ up. omega (arith, above, up))) (λ (up : a ≤ b). inl up) (cases_lt b a)

same_number : (a b : Option ℕ) → Decidable (a ≡ b)
same_number None None = inl refl
same_number None (Some b) = inr (λ is. cc)
same_number (Some a) None = inr (λ is. cc)
same_number (Some a) (Some b) = like (a ≡ b) (◌≡◌ {A = Option ℕ} (Some a) (Some b)) (λ is. ap Some is) (λ is. cc) (cases_eq a b)

-- ---- an entry

decided_verb : (word : List ℕ) → Decidable (IsVerb word)
decided_verb word = like (((0 < length word) × (length word ≤ 10)) × (list_all is_letter word ≡ true)) (IsVerb word)
    (λ parts. record { some = parts.0.0; most = parts.0.1; letters = AllPass-from_list_all is_letter word parts.1 })
    (λ is. ((is.some, is.most), verb_letters word is))
    (both_decidable ((0 < length word) × (length word ≤ 10)) (list_all is_letter word ≡ true)
    (both_decidable (0 < length word) (length word ≤ 10) (decided_below 0 (length word)) (decided_up_to (length word) 10))
    (by_bool (list_all is_letter word)))

module _ (n : ℕ) (P : List ℕ → Type 0) (p : ℕ → Bool) (none : p 0 ≡ false) (each : (text : List ℕ) → P text → list_all p text ≡ true) (short : (text : List ℕ) → P text → length text ≤ n)
    (decided : (text : List ℕ) → Decidable (P text)) (field : List ℕ) where
  abbrev at : ℕ
  at = position_or_len (λ byte. byte == 0) field

  abbrev Within : Type 0
  Within = (length field ≡ n) × (P (take at field) × IsZero (drop at field))

  decided_within : Decidable Within
  decided_within =
      both_decidable (length field ≡ n) (P (take at field) × IsZero (drop at field)) (cases_eq (length field) n)
      (both_decidable (P (take at field)) (IsZero (drop at field)) (decided (take at field)) (some_zeros (drop at field)))

  held_or_none : (field ≡ replicate n 0 → ⊥) → Decidable Within → Decidable (HoldsText n P field)
  held_or_none some (inl within) = inl (inr (
    take at field,
    within.1.0,
    filled_from n at field within.0 (omega (arith, within.0, within_field (λ byte. byte == 0) field)) within.1.1,
  ))
  held_or_none some (inr outside) = inr back
    where
      back : HoldsText n P field → ⊥
      back (inl blank) = some blank
      back (inr held) = outside (long_field n P field short (inr held), text_in P p none each n field at refl held.0 held.1 held.2)

  decided_text : Decidable (HoldsText n P field)
  decided_text = ⊎_elim
      (λ (blank : field ≡ replicate n 0). inl (inl blank))
      (λ (some : field ≡ replicate n 0 → ⊥). held_or_none some decided_within)
      (same_bytes field (replicate n 0))

module _ (n : ℕ) (field : List ℕ) where
  abbrev Named : Type 0
  Named = ((n ≤ 64) × (length field ≡ 64)) × (IsLabel (take n field) × IsZero (drop n field))

  decided_named : Decidable Named
  decided_named =
      both_decidable ((n ≤ 64) × (length field ≡ 64)) (IsLabel (take n field) × IsZero (drop n field))
      (both_decidable (n ≤ 64) (length field ≡ 64) (decided_up_to n 64) (cases_eq (length field) 64))
      (both_decidable (IsLabel (take n field)) (IsZero (drop n field)) (by_bool (is_label (take n field))) (some_zeros (drop n field)))

  no_label : n ≡ 0 → Decidable (field ≡ replicate 64 0) → Decidable (HoldsLabel n field)
  no_label is (inl blank) = inl (inl (is, blank))
  no_label is (inr some) = inr back
    where
      back : HoldsLabel n field → ⊥
      back (inl blank) = some blank.1
      back (inr held) = label_some held.0 held.1 (sym held.2 ∙ is)

  a_label : (n ≡ 0 → ⊥) → Decidable Named → Decidable (HoldsLabel n field)
  a_label isnt (inl named) = inl (inr (
    take n field,
    named.1.0,
    sym (length-take n field ∙ omega (arith, named.0.0, named.0.1)),
    filled_from 64 n field named.0.1 named.0.0 named.1.1,
  ))
  a_label isnt (inr other) = inr back
    where
      low : HoldsLabel n field → n ≤ 64
      low (inl blank) = omega (arith, blank.0)
      low (inr held) = omega (arith, held.2, label_short held.0 held.1)

      back : HoldsLabel n field → ⊥
      back holds = other ((low holds, long_label n field holds), label_in n field holds isnt)

  decided_label : Decidable (HoldsLabel n field)
  decided_label = ⊎_elim
      (λ (is : n ≡ 0). no_label is (same_bytes field (replicate 64 0)))
      (λ (isnt : n ≡ 0 → ⊥). a_label isnt decided_named)
      (cases_eq n 0)

decided_entry : (e : Entry) → Decidable (IsEntry e)
decided_entry e =
    let Role : Type 0 = HoldsText 8 IsRoleName e.role in
    let Verb : Type 0 = HoldsText 10 IsVerb e.verb in
    let Label : Type 0 = HoldsLabel e.label_length e.label in
    like (((e.rule < 100) × Role) × (Verb × Label)) (IsEntry e)
    (λ parts. record { rule = parts.0.0; role = parts.0.1; verb = parts.1.0; label = parts.1.1 })
    (λ is. ((is.rule, is.role), (is.verb, is.label)))
    (both_decidable ((e.rule < 100) × Role) (Verb × Label)
    (both_decidable (e.rule < 100) Role (decided_below e.rule 100) (decided_text 8 IsRoleName is_name_byte refl role_bytes role_short (λ text. by_bool (is_role_name text)) e.role))
    (both_decidable Verb Label (decided_text 10 IsVerb is_letter refl verb_letters (λ text verb. verb.most) decided_verb e.verb) (decided_label e.label_length e.label)))

-- ---- a cell

module _ (bytes : List ℕ) where
  abbrev here : Record
  here = record_in bytes

  decided_here : Decidable (Spells bytes here.number here.entry)
  decided_here =
      like (((here.number < 2 ^ 63) × IsEntry here.entry) × (bytes ≡ record_body here.number here.entry)) (Spells bytes here.number here.entry)
      (λ parts. record { entry = parts.0.1; below = parts.0.0; body = parts.1 })
      (λ spells. ((spells.below, spells.entry), spells.body))
      (both_decidable ((here.number < 2 ^ 63) × IsEntry here.entry) (bytes ≡ record_body here.number here.entry)
      (both_decidable (here.number < 2 ^ 63) (IsEntry here.entry) (decided_below here.number (2 ^ 63)) (decided_entry here.entry))
      (same_bytes bytes (record_body here.number here.entry)))

  -- what the body spells stands at the places of a record
  nothing_else : (m : ℕ) (e : Entry) → Spells bytes m e → Spells bytes here.number here.entry
  nothing_else m e spells = subst (λ (r : Record). Spells bytes r.number r.entry) (sym (spelled_in bytes m e spells)) spells

module _ (image : List ℕ) where
  abbrev Reads : ℕ → Type 0
  Reads n = (number : Option ℕ) × CellReads image n number

  a_record : (n : ℕ) → body image n ≢ blank_body → Decidable (Spells (body image n) (here (body image n)).number (here (body image n)).entry) → Reads n ⊎ IsStray image n
  a_record n some (inr nothing) = inr (record {
    some = some;
    none = λ m held. nothing (nothing_else (body image n) m held.entry held.spells);
  })
  a_record n some (inl spells) =
      let m : ℕ = (here (body image n)).number in
      ⊎_elim
      (λ (belongs : m % 4096 ≡ n). inl (Some m, record { entry = (here (body image n)).entry; spells = spells; belongs = belongs }))
      (λ (other : m % 4096 ≡ n → ⊥). inr (stray_here image n (body image n) m (here (body image n)).entry refl some spells other))
      (cases_eq (m % 4096) n)

  decided_cell : (n : ℕ) → Reads n ⊎ IsStray image n
  decided_cell n = ⊎_elim
      (λ (blank : body image n ≡ blank_body). inl (None, blank))
      (λ (some : body image n ≡ blank_body → ⊥). a_record n some (decided_here (body image n)))
      (same_bytes (body image n) blank_body)

  -- ---- all cells

  abbrev Stuck : Type 0
  Stuck = (cell : ℕ) × IsFirstDamaged image cell

  scan : (n : ℕ) → n ≤ 4096 → ((last : Option ℕ) × Scanned image n last) ⊎ Stuck
  scan zero within = inl (None, scanned_none image)
  scan (suc n) within = ⊎_elim
      (λ (come : (last : Option ℕ) × Scanned image n last). ⊎_elim
      (λ (reads : Reads n). inl (greater come.0 reads.0, subst (λ (k : ℕ). Scanned image k (greater come.0 reads.0)) (omega arith) (scanned_more image n come.0 reads.0 come.1 reads.1)))
      (λ (stray : IsStray image n). inr (n, inl (stray_first image n come.0 come.1 (omega (arith, within)) stray)))
      (decided_cell n))
      (λ (stuck : Stuck). inr stuck)
      (scan n (omega (arith, within)))

  module _ (h : ℕ) (scanned : Scanned image 4096 (Some h)) where
    check_cell : (n : ℕ) → n < 4096 → Checked image h n → Reads n → Checked image h (n + 1) ⊎ Stuck
    check_cell n below checked reads = ⊎_elim
        (λ (is : reads.0 ≡ newest_number h n). inl (checked_more image h n reads.0 checked reads.1 is))
        (λ (other : reads.0 ≡ newest_number h n → ⊥). inr (n, inr (h, stale_first image h n reads.0 scanned checked below reads.1 other)))
        (same_number reads.0 (newest_number h n))

    check : (n : ℕ) → n ≤ 4096 → Checked image h n ⊎ Stuck
    check zero within = inl (checked_none image h)
    check (suc n) within = ⊎_elim
        (λ (checked : Checked image h n). let here = scanned.each n (omega (arith, within)) in
        subst (λ (k : ℕ). Checked image h k ⊎ Stuck) (omega arith) (check_cell n (omega (arith, within)) checked (here.0, here.1)))
        (λ (stuck : Stuck). inr stuck)
        (check n (omega (arith, within)))

  come : (last : Option ℕ) → Scanned image 4096 last → ((next : ℕ) × StandsForTrail image next) ⊎ Stuck
  come None scanned = inl (0, stands_blank image scanned)
  come (Some h) scanned = ⊎_elim
      (λ (checked : Checked image h 4096). inl (h + 1, stands_checked image h checked))
      (λ (stuck : Stuck). inr stuck)
      (check h scanned 4096 (omega arith))

  pub sound_or_damaged : ((next : ℕ) × StandsForTrail image next) ⊎ Stuck
  sound_or_damaged = ⊎_elim
      (λ (scanned : (last : Option ℕ) × Scanned image 4096 last). come scanned.0 scanned.1)
      (λ (stuck : Stuck). inr stuck)
      (scan 4096 (omega arith))
