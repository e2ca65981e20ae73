-- A trail stands for as many entries as it has taken, and a body more is an entry more.
use Rattle.std.proofs.Common.{◌≡◌, ◌≢◌, ◌≤◌, ◌<◌, ◌+◌, ◌-◌, ◌%◌, ◌^◌, inl, inr, ⊎_elim, ℕ, List, [], ◌∷◌, ◌++◌, length, refl, sym, ap, subst, ◌∙◌, arith}
use Rattle.std.proofs.lemmas.Bool.{cases_eq, cases_lt}
use Rattle.std.proofs.lemmas.List.{length-append, get_or_append_left, get_or_push}
use Rattle.device_cells.specs.Cells.{body, IsReplacing}
use Rattle.audit_trail.specs.Changes.{Appending}
use Rattle.audit_trail.specs.Entries.{IsEntry, entry_at, no_entry}
use Rattle.audit_trail.specs.RecordBody.{record_body, Spells}
use Rattle.audit_trail.specs.TrailStands.{IsTrail, StandsForTrail, IsNewest}
use Rattle.audit_trail.specs.declared.entries.Entry.{Entry}
use Rattle.audit_trail.proofs.BodyLaws.{one_number, not_blank}

pub newest_of : (h n : ℕ) → n ≤ h → n < 4096 → IsNewest h n (h - (h - n) % 4096)
newest_of h n up low = record { up_to = omega arith; newest = omega arith; belongs = omega arith }

-- ---- one number of entries

shorter : (image : List ℕ) (es fs : List Entry) → IsTrail image es → IsTrail image fs → length es < length fs → ⊥
shorter image es fs first second less =
    let h : ℕ = length fs - 1 in
    let n : ℕ = h % 4096 in
    let here = second.held h (omega arith) (omega arith) in
    ⊎_elim
    (λ (reached : n < length es).
    let newest = newest_of (length es - 1) n (omega arith) (omega arith) in
    let m : ℕ = length es - 1 - (length es - 1 - n) % 4096 in
    let there = first.held m (omega (arith, newest.up_to)) (omega (arith, newest.newest)) in
    let same : m ≡ h = one_number (body image n) m h (entry_at es m) (entry_at fs h) (subst (λ (k : ℕ). Spells (body image k) m (entry_at es m)) newest.belongs there) here in
    omega (arith, same, newest.up_to, less))
    (λ (unreached : length es ≤ n). not_blank (body image n) h (entry_at fs h) here (first.blank n unreached (omega arith)))
    (cases_lt n (length es))

pub one_length : (image : List ℕ) (es fs : List Entry) → IsTrail image es → IsTrail image fs → length es ≡ length fs
one_length image es fs first second =
    ⊎_elim (λ (less : length es < length fs). absurd (shorter image es fs first second less))
    (λ (more : length fs ≤ length es). ⊎_elim (λ (same : length es ≡ length fs). same)
    (λ (other : length es ≡ length fs → ⊥). absurd (shorter image fs es second first (omega arith))) (cases_eq (length es) (length fs)))
    (cases_lt (length es) (length fs))

pub number_is : (image : List ℕ) (next : ℕ) (es : List Entry) → StandsForTrail image next → IsTrail image es → length es ≡ next
number_is image next es stands trail = one_length image es stands.0 trail stands.2 ∙ stands.1

-- ---- one entry more

pub same_bodies : (old new : List ℕ) (es : List Entry) → IsTrail old es → ((n : ℕ) → body new n ≡ body old n) → IsTrail new es
same_bodies old new es trail same = record {
  held = λ m below newest. subst (λ (b : List ℕ). Spells b m (entry_at es m)) (sym (same (m % 4096))) (trail.held m below newest);
  blank = λ n above low. same n ∙ trail.blank n above low;
}

module _ (es : List Entry) (e : Entry) (is : IsEntry e) (old new : List ℕ) (trail : IsTrail old es) (low : length es < 2 ^ 63)
    (here : body new (length es % 4096) ≡ record_body (length es) e) (others : (n : ℕ) → n ≢ length es % 4096 → body new n ≡ body old n) where
  at_end : entry_at (es ++ e ∷ []) (length es) ≡ e
  at_end = get_or_push es e no_entry (length es) refl

  one_more : length (es ++ e ∷ []) ≡ length es + 1
  one_more = length-append es (e ∷ [])

  abbrev Holds : ℕ → Type 0
  Holds m = Spells (body new (m % 4096)) m (entry_at (es ++ e ∷ []) m)

  new_held : Holds (length es)
  new_held = record {
    entry = subst IsEntry (sym at_end) is;
    below = low;
    body = here ∙ ap (record_body (length es)) (sym at_end);
  }

  old_held : (m : ℕ) → m < length es → length es < m + 4096 → Holds m
  old_held m below newest =
      let other : m % 4096 ≢ length es % 4096 = λ same. omega (arith, same) in
      subst (λ (x : Entry). Spells (body new (m % 4096)) m x) (sym (get_or_append_left es (e ∷ []) no_entry m below))
      (subst (λ (b : List ℕ). Spells b m (entry_at es m)) (sym (others (m % 4096) other)) (trail.held m below (omega arith)))

  pub appended : IsTrail new (es ++ e ∷ [])
  appended = record {
    held = λ m below newest. ⊎_elim
        (λ (is_end : m ≡ length es). subst Holds (sym is_end) new_held)
        (λ (before : m ≡ length es → ⊥). old_held m (omega (arith, one_more)) (omega (arith, one_more)))
        (cases_eq m (length es));
    blank = λ n above small. others n (λ same. omega (arith, one_more, same)) ∙ trail.blank n (omega (arith, one_more)) small;
  }

pub appending : (next : ℕ) (e : Entry) (old new : List ℕ) → IsEntry e → next < 2 ^ 63 → StandsForTrail old next → IsReplacing (next % 4096) (record_body next e) old new → Appending next e old new
appending next e old new is low stands replacing = record {
  outside = replacing.outside;
  others = replacing.others;
  untouched = replacing.untouched;
  stands = λ es trail.
      let number : length es ≡ next = number_is old next es stands trail in
      ⊎_elim
      (λ was. inl (same_bodies old new es trail (λ n. ⊎_elim (λ (at : n ≡ next % 4096). ap (body new) at ∙ was ∙ ap (body old) (sym at)) (λ (other : n ≡ next % 4096 → ⊥). replacing.others n other) (cases_eq n (next % 4096)))))
      (λ (here : body new (next % 4096) ≡ record_body next e). inr (added es e is old new trail next number low here replacing.others)) replacing.here;
}
  where
    added : (es : List Entry) (e : Entry) → IsEntry e → (old new : List ℕ) → IsTrail old es → (next : ℕ) → length es ≡ next → next < 2 ^ 63 → body new (next % 4096) ≡ record_body next e
        → ((n : ℕ) → n ≢ next % 4096 → body new n ≡ body old n) → IsTrail new (es ++ e ∷ [])
    added es e is old new trail next number low here others =
        appended es e is old new trail (omega (arith, number, low))
        (ap (λ (k : ℕ). body new (k % 4096)) number ∙ here ∙ ap (λ (k : ℕ). record_body k e) (sym number))
        (λ n other. others n (λ (same : n ≡ next % 4096). other (same ∙ ap (λ (k : ℕ). k % 4096) (sym number))))
