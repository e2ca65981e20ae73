-- Runs that are stopped and run again end as one that isn't.
use Rattle.std.proofs.Common.{◌≡◌, ◌≤◌, ◌<◌, ℕ, zero, suc, ◌+◌, Bool, List, [], ◌∷◌, length, set, max, Option, None, Some, true, false, cond, refl, sym, ap, ◌∙◌, arith}
use Rattle.std.specs.Prelude.{◌&&◌, if◌then◌else◌}
use Rattle.std.proofs.lemmas.Grind.{common_steps}
use Rattle.key_tokens.specs.Denotes.{Denoted, MasterKeys}
use Rattle.record_bodies.specs.Entries.{Entry}
use Rattle.record_bodies.specs.StoreStands.{StandsForLabels, entry_at}
use Rattle.record_bodies.specs.Ages.{has_old_key}
use Rattle.record_bodies.specs.Further.{under_current, has_current_key, changed, changed_entry, is_changed, is_changed_by, made_by, further, reruns, changed_count}
use Rattle.record_bodies.specs.declared.actions.StoreAction.{StoreAction}
use Rattle.record_bodies.specs.declared.actions.StoreAction.TheVariants.{Renew, Ahead, Drop}

-- ---- whether an action changes what it made of a label

pub and_false : (b : Bool) → (b && false) ≡ false
and_false true = refl
and_false false = refl

not_old : (w : Option Denoted) → has_old_key (under_current w) ≡ false
not_old None = refl
not_old (Some d) = refl

made_stays : (a : StoreAction) (e : Entry) → is_changed_by a (made_by a e) ≡ false
made_stays Renew e = not_old e.what
made_stays Ahead e = and_false (has_current_key e.what)
made_stays Drop e = refl

unchanged : (a : StoreAction) (e : Entry) → is_changed_by a (changed a e) ≡ false
unchanged a e = by_change (is_changed_by a e) refl
  where
    by_change : (b : Bool) → is_changed_by a e ≡ b → is_changed_by a (if b then made_by a e else e) ≡ false
    by_change true is = made_stays a e
    by_change false is = is

still : (a : StoreAction) (e : Entry) → is_changed_by a e ≡ false → changed a e ≡ e
still a e is = ap (λ b. if b then made_by a e else e) is

pub changed_is : (a : StoreAction) (e : Entry) → is_changed_by a e ≡ true → changed a e ≡ made_by a e
changed_is a e is = ap (λ b. if b then made_by a e else e) is

pub not_changed : (a : StoreAction) (e : Option Entry) → is_changed a (changed_entry a e) ≡ false
not_changed a None = refl
not_changed a (Some e) = unchanged a e

pub changed_same : (a : StoreAction) (e : Option Entry) → is_changed a e ≡ false → changed_entry a e ≡ e
changed_same a None is = refl
changed_same a (Some e) is = ap (λ x. Some x) (still a e is)

pub changed_twice : (a : StoreAction) (e : Option Entry) → changed_entry a (changed_entry a e) ≡ changed_entry a e
changed_twice a e = changed_same a (changed_entry a e) (not_changed a e)

pub further_none : (a : StoreAction) (s : List (Option Entry)) → further a s 0 ≡ s
further_none a [] = refl
further_none a (e ∷ s) = refl

pub length-further : (a : StoreAction) (s : List (Option Entry)) (n : ℕ) → length (further a s n) ≡ length s
length-further a [] n = refl
length-further a (e ∷ s) zero = refl
length-further a (e ∷ s) (suc n) = ap suc (length-further a s n)

pub further_twice : (a : StoreAction) (s : List (Option Entry)) (m n : ℕ) → further a (further a s m) n ≡ further a s (max m n)
further_twice a [] m n = refl
further_twice a (e ∷ s) zero n = let n_is : n ≡ max zero n = omega arith in ap (further a (e ∷ s)) n_is
further_twice a (e ∷ s) (suc m) zero = let m_is : suc m ≡ max (suc m) zero = omega arith in further_none a (further a (e ∷ s) (suc m)) ∙ ap (further a (e ∷ s)) m_is
further_twice a (e ∷ s) (suc m) (suc n) =
    let both : max (suc m) (suc n) ≡ suc (max m n) = omega arith in
    ap (λ x. x ∷ further a (further a s m) n) (changed_twice a e) ∙ ap (λ r. changed_entry a e ∷ r) (further_twice a s m n) ∙ ap (further a (e ∷ s)) (sym both)

-- past the last cell
pub further_all : (a : StoreAction) (s : List (Option Entry)) (m n : ℕ) → length s ≤ m → length s ≤ n → further a s m ≡ further a s n
further_all a [] m n past too = refl
further_all a (e ∷ s) zero n past too = absurd (omega arith)
further_all a (e ∷ s) (suc m) zero past too = absurd (omega arith)
further_all a (e ∷ s) (suc m) (suc n) past too = ap (λ r. changed_entry a e ∷ r) (further_all a s m n (omega arith) (omega arith))

pub rerun : (a : StoreAction) (s : List (Option Entry)) (stops : List ℕ) (all : ℕ) → length s ≤ all → further a (reruns a s stops) all ≡ further a s all
rerun a s [] all whole = refl
rerun a s (n ∷ stops) all whole =
    rerun a (further a s n) stops all (omega (arith, length-further a s n)) ∙ further_twice a s n all ∙ further_all a s (max n all) all (omega arith) whole

-- one cell more
pub further_next : (a : StoreAction) (s : List (Option Entry)) (n : ℕ) → further a s (n + 1) ≡ set (further a s n) n (changed_entry a (entry_at (further a s n) n))
further_next a s n = let more : n + 1 ≡ suc n = omega arith in ap (further a s) more ∙ next s n
  where
    next : (s : List (Option Entry)) (n : ℕ) → further a s (suc n) ≡ set (further a s n) n (changed_entry a (entry_at (further a s n) n))
    next [] n = refl
    next (e ∷ s) zero = ap (λ r. changed_entry a e ∷ r) (further_none a s)
    next (e ∷ s) (suc n) = ap (λ r. changed_entry a e ∷ r) (next s n)

-- ---- how many an action changes

count_more : (a : StoreAction) (e : Option Entry) (s : List (Option Entry)) → changed_count a (e ∷ s) ≡ changed_count a s + cond (is_changed a e) 1 0
count_more a e s = grind (arith, common_steps)

pub changed_all : (a : StoreAction) (s : List (Option Entry)) (all : ℕ) → length s ≤ all → changed_count a (further a s all) ≡ 0
changed_all a [] all whole = refl
changed_all a (e ∷ s) zero whole = absurd (omega arith)
changed_all a (e ∷ s) (suc all) whole =
    count_more a (changed_entry a e) (further a s all) ∙ ap (λ t. changed_count a (further a s all) + cond t 1 0) (not_changed a e) ∙ omega (arith, changed_all a s all (omega arith))

pub changed_step : (a : StoreAction) (s : List (Option Entry)) (n : ℕ) → n < length s → changed_count a (further a s (n + 1)) + cond (is_changed a (entry_at (further a s n) n)) 1 0 ≡ changed_count a (further a s n)
changed_step a s n within =
    let more : n + 1 ≡ suc n = omega arith in
    ap (λ k. changed_count a (further a s k) + cond (is_changed a (entry_at (further a s n) n)) 1 0) more ∙ step s n within
  where
    step : (s : List (Option Entry)) (n : ℕ) → n < length s → changed_count a (further a s (suc n)) + cond (is_changed a (entry_at (further a s n) n)) 1 0 ≡ changed_count a (further a s n)
    step [] n within = absurd (omega arith)
    step (e ∷ s) zero within =
        ap (λ k. k + cond (is_changed a e) 1 0) (count_more a (changed_entry a e) (further a s 0) ∙ ap (λ t. changed_count a (further a s 0) + cond t 1 0) (not_changed a e))
        ∙ ap (λ r. changed_count a r + 0 + cond (is_changed a e) 1 0) (further_none a s)
        ∙ omega (arith, count_more a e s)
    step (e ∷ s) (suc n) within =
        let rest = step s n (omega arith) in
        omega (arith, rest, count_more a (changed_entry a e) (further a s (suc n)), count_more a (changed_entry a e) (further a s n))

-- the label of a cell that wasn't reached
pub further_here : (a : StoreAction) (s : List (Option Entry)) (n : ℕ) → entry_at (further a s n) n ≡ entry_at s n
further_here a [] n = refl
further_here a (e ∷ s) zero = refl
further_here a (e ∷ s) (suc n) = further_here a s n

-- a store stands for as many labels as it has cells
pub whole : (a : StoreAction) (masters : MasterKeys) (image : List ℕ) (s : List (Option Entry)) → StandsForLabels masters image (further a s 1024) → length s ≤ 1024
whole a masters image s stands = omega (arith, stands.size, length-further a s 1024)
