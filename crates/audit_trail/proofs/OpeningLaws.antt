-- Opening a trail: one cell more, the end, and cells that are damaged.
use Rattle.std.proofs.Common.{◌≡◌, ◌≢◌, ◌≤◌, ◌<◌, ◌+◌, ◌-◌, ◌%◌, ◌^◌, ◌⊎◌, inl, inr, ⊎_elim, ℕ, true, false, List, [], length, map, Option, None, Some, IfSome, refl, sym, ap, subst, ◌∙◌, arith}
use Rattle.std.specs.Prelude.{nat_le, nat_lt, if◌then◌else◌}
use Rattle.std.specs.List.{range_with_len}
use Rattle.std.proofs.lemmas.Bool.{cases_eq, cases_lt}
use Rattle.std.proofs.lemmas.Bool.Decides.{nat_tests}
use Rattle.std.proofs.lemmas.List.FromFn.{length-map-range_with_len, get_or-map-range_with_len}
use Rattle.device_cells.specs.Cells.{body}
use Rattle.audit_trail.specs.Entries.{entry_at, no_entry}
use Rattle.audit_trail.specs.Opening.{CellReads, greater, IsUpTo, Scanned, newest_number, Checked}
use Rattle.audit_trail.specs.RecordBody.{blank_body, Spells}
use Rattle.audit_trail.specs.Reading.{entry_in}
use Rattle.audit_trail.specs.TrailStands.{IsTrail, StandsForTrail, HoldsNumber, IsStray, IsGreatest, IsNewest, IsStale, IsFirstStray, IsFirstStale, IsFirstDamaged}
use Rattle.audit_trail.specs.declared.entries.Entry.{Entry}
use Rattle.audit_trail.proofs.BodyLaws.{spelled_in, one_number, not_blank}
use Rattle.audit_trail.specs.declared.bodies.Record.{Record}
use Rattle.audit_trail.proofs.TrailLaws.{newest_of}

-- ---- numbers, of which each may be missing

pub picked : (a b : ℕ) → ((greater (Some a) (Some b) ≡ Some b) × (a < b)) ⊎ ((greater (Some a) (Some b) ≡ Some a) × (b ≤ a))
picked a b = ⊎_elim
    (λ (less : a < b). let yes : nat_lt a b ≡ true = grind (arith, nat_tests) in inl (ap (λ t. if t then Some b else Some a) yes, less))
    (λ (more : b ≤ a). let no : nat_lt a b ≡ false = grind (arith, nat_tests) in inr (ap (λ t. if t then Some b else Some a) no, more))
    (cases_lt a b)

up_to_left : (x a b : Option ℕ) → IsUpTo x a → IsUpTo x (greater a b)
up_to_left None a b up = tt
up_to_left (Some x) None b up = absurd up
up_to_left (Some x) (Some a) None up = up
up_to_left (Some x) (Some a) (Some b) up = ⊎_elim
    (λ (p : (greater (Some a) (Some b) ≡ Some b) × (a < b)). let low : x ≤ b = omega (arith, up, p.1) in subst (IsUpTo (Some x)) (sym p.0) low)
    (λ (p : (greater (Some a) (Some b) ≡ Some a) × (b ≤ a)). subst (IsUpTo (Some x)) (sym p.0) up)
    (picked a b)

up_to_right : (a b : Option ℕ) → IsUpTo b (greater a b)
up_to_right a None = tt
up_to_right None (Some b) = omega arith
up_to_right (Some a) (Some b) = ⊎_elim
    (λ (p : (greater (Some a) (Some b) ≡ Some b) × (a < b)). let low : b ≤ b = omega arith in subst (IsUpTo (Some b)) (sym p.0) low)
    (λ (p : (greater (Some a) (Some b) ≡ Some a) × (b ≤ a)). subst (IsUpTo (Some b)) (sym p.0) p.1)
    (picked a b)

pub low_greater : (a b : Option ℕ) → IfSome a (λ n. n < 2 ^ 63) → IfSome b (λ n. n < 2 ^ 63) → IfSome (greater a b) (λ n. n < 2 ^ 63)
low_greater None b first second = second
low_greater (Some a) None first second = first
low_greater (Some a) (Some b) first second = ⊎_elim
    (λ (p : (greater (Some a) (Some b) ≡ Some b) × (a < b)). subst (λ (o : Option ℕ). IfSome o (λ n. n < 2 ^ 63)) (sym p.0) second)
    (λ (p : (greater (Some a) (Some b) ≡ Some a) × (b ≤ a)). subst (λ (o : Option ℕ). IfSome o (λ n. n < 2 ^ 63)) (sym p.0) first)
    (picked a b)

-- ---- one cell more

module _ (image : List ℕ) where
  abbrev HeldBelow : ℕ → Option ℕ → Type 0
  HeldBelow cells last = IfSome last (λ h. (n : ℕ) × (n < cells) × HoldsNumber image n h)

  pub scanned_none : Scanned image 0 None
  scanned_none = record { each = λ n below. absurd (omega arith); held = tt }

  held_wider : (cells : ℕ) (last : Option ℕ) → HeldBelow cells last → HeldBelow (cells + 1) last
  held_wider cells None held = tt
  held_wider cells (Some h) held = (held.0, omega (arith, held.1), held.2)

  held_here : (cell : ℕ) (number : Option ℕ) → CellReads image cell number → HeldBelow (cell + 1) number
  held_here cell None reads = tt
  held_here cell (Some m) reads = (cell, omega arith, reads)

  held_greater : (cells : ℕ) (a b : Option ℕ) → HeldBelow cells a → HeldBelow cells b → HeldBelow cells (greater a b)
  held_greater cells None b first second = second
  held_greater cells (Some a) None first second = first
  held_greater cells (Some a) (Some b) first second = ⊎_elim
      (λ (p : (greater (Some a) (Some b) ≡ Some b) × (a < b)). subst (HeldBelow cells) (sym p.0) second)
      (λ (p : (greater (Some a) (Some b) ≡ Some a) × (b ≤ a)). subst (HeldBelow cells) (sym p.0) first)
      (picked a b)

  pub scanned_more : (cell : ℕ) (last number : Option ℕ) → Scanned image cell last → CellReads image cell number → Scanned image (cell + 1) (greater last number)
  scanned_more cell last number scanned reads = record {
    each = λ n below. ⊎_elim
        (λ (is : n ≡ cell). (number, subst (λ (k : ℕ). CellReads image k number) (sym is) reads, up_to_right last number))
        (λ (other : n ≡ cell → ⊥). let was = scanned.each n (omega (arith, below, other)) in (was.0, was.1, up_to_left was.0 last number was.2))
        (cases_eq n cell);
    held = held_greater (cell + 1) last number (held_wider cell last scanned.held) (held_here cell number reads);
  }

  -- ---- a cell that reads

  one_held : (n m k : ℕ) → HoldsNumber image n m → HoldsNumber image n k → m ≡ k
  one_held n m k first second = one_number (body image n) m k first.entry second.entry first.spells second.spells

  held_not_blank : (n m : ℕ) → HoldsNumber image n m → body image n ≢ blank_body
  held_not_blank n m held = not_blank (body image n) m held.entry held.spells

  reads_sound : (n : ℕ) (number : Option ℕ) → CellReads image n number → IsStray image n → ⊥
  reads_sound n None blank stray = stray.some blank
  reads_sound n (Some m) held stray = stray.none m held

  reads_number : (n m : ℕ) (number : Option ℕ) → CellReads image n number → HoldsNumber image n m → number ≡ Some m
  reads_number n m None blank held = absurd (held_not_blank n m held blank)
  reads_number n m (Some k) there held = ap (λ x. Some x) (one_held n k m there held)

  reads_blank : (n : ℕ) (number : Option ℕ) → CellReads image n number → number ≡ None → body image n ≡ blank_body
  reads_blank n number reads none = subst (CellReads image n) none reads

  not_none : (n : ℕ) (number : Option ℕ) → CellReads image n number → number ≢ None → body image n ≢ blank_body
  not_none n None reads some blank = some refl
  not_none n (Some m) held some blank = held_not_blank n m held blank

  pub stray_first : (cell : ℕ) (last : Option ℕ) → Scanned image cell last → cell < 4096 → IsStray image cell → IsFirstStray image cell
  stray_first cell last scanned within stray = record {
    within = within;
    stray = stray;
    first = λ k below. let here = scanned.each k below in reads_sound k here.0 here.1;
  }

  pub no_stray : (last : Option ℕ) → Scanned image 4096 last → (k : ℕ) → k < 4096 → IsStray image k → ⊥
  no_stray last scanned k below = let here = scanned.each k below in reads_sound k here.0 here.1

  -- ---- no record

  up_to_none : (number : Option ℕ) → IsUpTo number None → number ≡ None
  up_to_none None up = refl
  up_to_none (Some m) up = absurd up

  all_blank : Scanned image 4096 None → (n : ℕ) → n < 4096 → body image n ≡ blank_body
  all_blank scanned n below = let here = scanned.each n below in reads_blank n here.0 here.1 (up_to_none here.0 here.2)

  pub stands_blank : Scanned image 4096 None → StandsForTrail image 0
  stands_blank scanned = (
    [],
    refl,
    record {
      held = λ m below newest. absurd (omega arith);
      blank = λ n above low. all_blank scanned n low;
    },
  )

  pub blank_undamaged : Scanned image 4096 None → (cell : ℕ) → IsFirstDamaged image cell → ⊥
  blank_undamaged scanned cell (inl stray) = no_stray None scanned cell stray.within stray.stray
  blank_undamaged scanned cell (inr stale) =
      let h : ℕ = stale.0 in
      held_not_blank (h % 4096) h stale.1.greatest.held (all_blank scanned (h % 4096) (omega arith))

  -- ---- the greatest number

  module _ (h : ℕ) where
    pub greatest : Scanned image 4096 (Some h) → IsGreatest image h
    greatest scanned = record {
      held = let here = scanned.held in subst (λ (n : ℕ). HoldsNumber image n h) (sym here.2.belongs) here.2;
      most = λ n m below held. let here = scanned.each n below in up_to_some here.0 m here.2 (reads_number n m here.0 here.1 held);
    }
      where
        up_to_some : (number : Option ℕ) (m : ℕ) → IsUpTo number (Some h) → number ≡ Some m → m ≤ h
        up_to_some number m up is = subst (λ (o : Option ℕ). IsUpTo o (Some h)) is up

    pub number_there : (n : ℕ) → n ≤ h → newest_number h n ≡ Some (h - (h - n) % 4096)
    unfolding newest_number
    number_there n up = let yes : nat_le n h ≡ true = grind (arith, nat_tests) in ap (λ t. if t then Some (h - (h - n) % 4096) else None) yes

    pub number_none : (n : ℕ) → h < n → newest_number h n ≡ None
    unfolding newest_number
    number_none n above = let no : nat_le n h ≡ false = grind (arith, nat_tests) in ap (λ t. if t then Some (h - (h - n) % 4096) else None) no

    one_newest : (n m k : ℕ) → IsNewest h n m → IsNewest h n k → m ≡ k
    one_newest n m k first second = omega (arith, first.up_to, first.newest, first.belongs, second.up_to, second.newest, second.belongs)

    number_newest : (n m : ℕ) → n < 4096 → IsNewest h n m → newest_number h n ≡ Some m
    number_newest n m low newest =
        let up : n ≤ h = omega (arith, newest.up_to, newest.belongs) in
        number_there n up ∙ ap (λ x. Some x) (one_newest n (h - (h - n) % 4096) m (newest_of h n up low) newest)

    pub checked_none : Checked image h 0
    checked_none = record { each = λ n below. absurd (omega arith) }

    pub checked_more : (cell : ℕ) (number : Option ℕ) → Checked image h cell → CellReads image cell number → number ≡ newest_number h cell → Checked image h (cell + 1)
    checked_more cell number checked reads is = record {
      each = λ n below. ⊎_elim
          (λ (at : n ≡ cell). subst (λ (k : ℕ). CellReads image k (newest_number h k)) (sym at) (subst (CellReads image cell) is reads))
          (λ (other : n ≡ cell → ⊥). checked.each n (omega (arith, below, other)))
          (cases_eq n cell);
    }

    fresh : (n : ℕ) → CellReads image n (newest_number h n) → n < 4096 → IsStale image h n → ⊥
    fresh n reads low (inl missing) = missing.2 (subst (CellReads image n) (number_newest n missing.0 low missing.1) reads)
    fresh n reads low (inr beyond) = beyond.1 (reads_blank n (newest_number h n) reads (number_none n beyond.0))

    stale : (cell : ℕ) (number : Option ℕ) → cell < 4096 → CellReads image cell number → number ≢ newest_number h cell → IsStale image h cell
    stale cell number low reads other = ⊎_elim
        (λ (above : h < cell). inr (above, not_none cell number reads (λ none. other (none ∙ sym (number_none cell above)))))
        (λ (up : cell ≤ h). inl (h - (h - cell) % 4096, newest_of h cell up low, λ held. other (reads_number cell (h - (h - cell) % 4096) number reads held ∙ sym (number_there cell up))))
        (cases_lt h cell)

    pub stale_first : (cell : ℕ) (number : Option ℕ) → Scanned image 4096 (Some h) → Checked image h cell → cell < 4096 → CellReads image cell number → number ≢ newest_number h cell → IsFirstStale image h cell
    stale_first cell number scanned checked within reads other = record {
      none = no_stray (Some h) scanned;
      greatest = greatest scanned;
      within = within;
      stale = stale cell number within reads other;
      first = λ k below. fresh k (checked.each k below) (omega (arith, below, within));
    }

    pub checked_undamaged : Scanned image 4096 (Some h) → Checked image h 4096 → (cell : ℕ) → IsFirstDamaged image cell → ⊥
    checked_undamaged scanned checked cell (inl stray) = no_stray (Some h) scanned cell stray.within stray.stray
    checked_undamaged scanned checked cell (inr other) =
        let mine : IsGreatest image h = greatest scanned in
        let up : other.0 ≤ h = mine.most (other.0 % 4096) other.0 (omega arith) other.1.greatest.held in
        let down : h ≤ other.0 = other.1.greatest.most (h % 4096) h (omega arith) mine.held in
        let same : other.0 ≡ h = omega (arith, up, down) in
        fresh cell (checked.each cell other.1.within) other.1.within (subst (λ (k : ℕ). IsStale image k cell) same other.1.stale)

    -- ---- the entries that are held

    abbrev entries : List Entry
    entries = map (λ m. entry_in (body image (m % 4096))) (range_with_len 0 (h + 1))

    long : length entries ≡ h + 1
    long = length-map-range_with_len (λ m. entry_in (body image (m % 4096))) 0 (h + 1)

    spells_again : (n m : ℕ) → HoldsNumber image n m → Spells (body image n) m (entry_in (body image n))
    spells_again n m held = subst (Spells (body image n) m) (sym (ap (λ (r : Record). r.entry) (spelled_in (body image n) m held.entry held.spells))) held.spells

    pub stands_checked : Checked image h 4096 → StandsForTrail image (h + 1)
    stands_checked checked = (
      entries,
      long,
      record {
        held = λ m below newest.
            let is_newest : IsNewest h (m % 4096) m = record { up_to = omega (arith, long, below); newest = omega (arith, long, newest); belongs = refl } in
            let low : m % 4096 < 4096 = omega arith in
            let there : HoldsNumber image (m % 4096) m = subst (CellReads image (m % 4096)) (number_newest (m % 4096) m low is_newest) (checked.each (m % 4096) low) in
            subst (Spells (body image (m % 4096)) m) (sym (get_or-map-range_with_len (λ k. entry_in (body image (k % 4096))) 0 (h + 1) m m no_entry (omega (arith, long, below)) (omega arith)))
            (spells_again (m % 4096) m there);
        blank = λ n above low. reads_blank n (newest_number h n) (checked.each n low) (number_none n (omega (arith, long, above)));
      },
    )

-- ---- a body that was read

pub stray_here : (image : List ℕ) (cell : ℕ) (out : List ℕ) (n : ℕ) (e : Entry) → out ≡ body image cell → (out ≡ blank_body → ⊥) → Spells out n e → (n % 4096 ≡ cell → ⊥) → IsStray image cell
stray_here image cell out n e here some spells other = record {
  some = λ blank. some (here ∙ blank);
  none = λ m held. other (ap (λ (k : ℕ). k % 4096) (one_number out n m e held.entry spells (subst (λ (b : List ℕ). Spells b m held.entry) (sym here) held.spells)) ∙ held.belongs);
}

pub stray_none : (image : List ℕ) (cell : ℕ) (out : List ℕ) → out ≡ body image cell → (out ≡ blank_body → ⊥)
    → ((n : ℕ) (e : Entry) → Spells out n e → ⊥) → IsStray image cell
stray_none image cell out here some unspelled = record {
  some = λ blank. some (here ∙ blank);
  none = λ m held. unspelled m held.entry (subst (λ (b : List ℕ). Spells b m held.entry) (sym here) held.spells);
}

pub holds_here : (image : List ℕ) (cell : ℕ) (out : List ℕ) (n : ℕ) (e : Entry) → out ≡ body image cell → Spells out n e → n % 4096 ≡ cell
    → HoldsNumber image cell n
holds_here image cell out n e here spells belongs = record {
  entry = e;
  spells = subst (λ (b : List ℕ). Spells b n e) here spells;
  belongs = belongs;
}

-- ---- one first damaged cell

pub first_one : (image : List ℕ) (a b : ℕ) → IsFirstDamaged image a → IsFirstDamaged image b → a ≡ b
first_one image a b (inl first) (inl second) =
    ⊎_elim (λ (below : a < b). absurd (second.first a below first.stray))
    (λ (above : b ≤ a). ⊎_elim (λ (same : b ≡ a). sym same) (λ (other : b ≡ a → ⊥). absurd (first.first b (omega (arith, above, other)) second.stray)) (cases_eq b a))
    (cases_lt a b)
first_one image a b (inl first) (inr second) = absurd (second.1.none a first.within first.stray)
first_one image a b (inr first) (inl second) = absurd (first.1.none b second.within second.stray)
first_one image a b (inr first) (inr second) =
    let up : first.0 ≤ second.0 = second.1.greatest.most (first.0 % 4096) first.0 (omega arith) first.1.greatest.held in
    let down : second.0 ≤ first.0 = first.1.greatest.most (second.0 % 4096) second.0 (omega arith) second.1.greatest.held in
    let same : first.0 ≡ second.0 = omega (arith, up, down) in
    ⊎_elim (λ (below : a < b). absurd (second.1.first a below (subst (λ (k : ℕ). IsStale image k a) same first.1.stale)))
    (λ (above : b ≤ a). ⊎_elim (λ (is : b ≡ a). sym is) (λ (other : b ≡ a → ⊥). absurd (first.1.first b (omega (arith, above, other)) (subst (λ (k : ℕ). IsStale image k b) (sym same) second.1.stale))) (cases_eq b a))
    (cases_lt a b)

-- ---- a trail that stands for entries isn't damaged

module _ (image : List ℕ) (es : List Entry) (trail : IsTrail image es) where
  -- a cell that some number has reached holds the newest of its numbers
  reached : (n : ℕ) → n < 4096 → n < length es → (m : ℕ) × IsNewest (length es - 1) n m × HoldsNumber image n m
  reached n low below =
      let m : ℕ = length es - 1 - (length es - 1 - n) % 4096 in
      let newest : IsNewest (length es - 1) n m = newest_of (length es - 1) n (omega arith) low in (
        m,
        newest,
        record {
          entry = entry_at es m;
          spells = subst (λ (k : ℕ). Spells (body image k) m (entry_at es m)) newest.belongs (trail.held m (omega (arith, newest.up_to)) (omega (arith, newest.newest)));
          belongs = newest.belongs;
        },
      )

  no_stray_cell : (cell : ℕ) → cell < 4096 → IsStray image cell → ⊥
  no_stray_cell cell low stray = ⊎_elim
      (λ (below : cell < length es). let here = reached cell low below in stray.none here.0 here.2)
      (λ (above : length es ≤ cell). stray.some (trail.blank cell above low))
      (cases_lt cell (length es))

  -- the greatest number that is held is the last one
  last_number : (h : ℕ) → IsGreatest image h → h + 1 ≡ length es
  last_number h great =
      let n : ℕ = h % 4096 in
      ⊎_elim
      (λ (below : n < length es).
      let here = reached n (omega arith) below in
      let same : h ≡ here.0 = one_held image n h here.0 great.held here.2 in
      let top : ℕ = length es - 1 in
      let last = reached (top % 4096) (omega arith) (omega arith) in
      let last_is : last.0 ≡ top = omega (arith, last.1.up_to, last.1.newest, last.1.belongs) in
      let most : last.0 ≤ h = great.most (top % 4096) last.0 (omega arith) last.2 in
      omega (arith, same, here.1.up_to, last_is, most, below))
      (λ (above : length es ≤ n). absurd (held_not_blank image n h great.held (trail.blank n above (omega arith))))
      (cases_lt n (length es))

  pub trail_undamaged : (cell : ℕ) → IsFirstDamaged image cell → ⊥
  trail_undamaged cell (inl stray) = no_stray_cell cell stray.within stray.stray
  trail_undamaged cell (inr other) = by_case other.1.stale
    where
      last : other.0 + 1 ≡ length es
      last = last_number other.0 other.1.greatest

      by_case : IsStale image other.0 cell → ⊥
      by_case (inl missing) = missing.2 (record {
        entry = entry_at es missing.0;
        spells = subst (λ (k : ℕ). Spells (body image k) missing.0 (entry_at es missing.0)) missing.1.belongs (trail.held missing.0 (omega (arith, last, missing.1.up_to)) (omega (arith, last, missing.1.newest)));
        belongs = missing.1.belongs;
      })
      by_case (inr beyond) = beyond.1 (trail.blank cell (omega (arith, last, beyond.0)) other.1.within)
