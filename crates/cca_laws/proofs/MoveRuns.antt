-- The requests of a move, one after another, over a list of places: each is settled once it is carried out, and stays
-- settled, so that requests that come again change nothing.
use Rattle.std.proofs.Common.{◌≡◌, ◌≢◌, ⊎_elim, ◌<◌, ℕ, zero, suc, Bool, true, false, List, [], ◌∷◌, ◌++◌, length, get_or, take, drop, Option, Some, refl, sym, ap, subst, ◌∙◌, arith}
use Rattle.std.specs.Prelude.{⊤, Contains, is_some}
use Rattle.std.specs.List.{AllByRecursion, flat_map}
use Rattle.std.proofs.lemmas.List.{take-append-drop}
use Rattle.record_bodies.specs.Directory.{cell_of}
use Rattle.record_bodies.specs.Entries.{Entry, directory, entry}
use Rattle.key_tokens.specs.Denotes.{Denoted}
use Rattle.cca_laws.proofs.MoveLists.{Finds, IsHeld, create_elsewhere, create_held, create_stays, entry_found, finds_further, finds_itself, held_with_entry, import_again, import_directory, import_elsewhere, import_gives, same_or_other}
use Rattle.cca_laws.proofs.MoveRoom.{HasRoom, held_after, room_created, room_imported}
use Rattle.cca_laws.proofs.MoveSteps.{after_create, after_import}

-- a step of a move: the record of a label is created, or its key imported
pub data Step : Type 0 where
  Creates : List ℕ → Step
  Imports : List ℕ → Step

abbrev pub label_of : Step → List ℕ
label_of (Creates label) = label
label_of (Imports label) = label

-- ---- all of some steps

pub all_take : (P : Step → Type 0) (n : ℕ) (xs : List Step) → AllByRecursion P xs → AllByRecursion P (take n xs)
all_take P zero xs each = tt
all_take P (suc n) [] each = tt
all_take P (suc n) (x ∷ xs) each = (each.0, all_take P n xs each.1)

pub all_append : (P : Step → Type 0) (xs ys : List Step) → AllByRecursion P xs → AllByRecursion P ys → AllByRecursion P (xs ++ ys)
all_append P [] ys each others = others
all_append P (x ∷ xs) ys each others = (each.0, all_append P xs ys each.1 others)

all_parts : (P : Step → Type 0) (xs ys : List Step) → AllByRecursion P (xs ++ ys) → AllByRecursion P xs × AllByRecursion P ys
all_parts P [] ys each = (tt, each)
all_parts P (x ∷ xs) ys each = let later = all_parts P xs ys each.1 in ((each.0, later.0), later.1)

-- the first so many steps, again and again, and then all
abbrev pub again : List ℕ → List Step → List Step
again counts xs = flat_map (λ count. take count xs) counts ++ xs

pub all_again : (P : Step → Type 0) (counts : List ℕ) (xs : List Step) → AllByRecursion P xs → AllByRecursion P (again counts xs)
all_again P counts xs each = all_append P (flat_map (λ count. take count xs) counts) xs (first counts) each
  where
    first : (counts : List ℕ) → AllByRecursion P (flat_map (λ count. take count xs) counts)
    first [] = tt
    first (c ∷ cs) = all_append P (take c xs) (flat_map (λ count. take count xs) cs) (all_take P c xs each) (first cs)

-- ---- the steps of a move

module _ (moves : List ℕ → Bool) where
  abbrev pub steps_by : Bool → List ℕ → List Step
  steps_by true label = Creates label ∷ Imports label ∷ []
  steps_by false label = []

  -- none where the label doesn't move
  abbrev pub steps_for : List ℕ → List Step
  steps_for label = steps_by (moves label) label

  -- each is of a label that moves
  pub all_move : (labels : List (List ℕ)) → AllByRecursion (λ x. moves (label_of x) ≡ true) (flat_map steps_for labels)
  all_move [] = tt
  all_move (label ∷ labels) = all_append (λ x. moves (label_of x) ≡ true) (steps_for label) (flat_map steps_for labels) (by_test (moves label) refl) (all_move labels)
    where
      by_test : (t : Bool) → moves label ≡ t → AllByRecursion (λ x. moves (label_of x) ≡ true) (steps_by t label)
      by_test true moved = (moved, (moved, tt))
      by_test false stays = tt

  -- the import of a label that moves is among them
  pub import_among : (P : Step → Type 0) (labels : List (List ℕ)) (label : List ℕ) → moves label ≡ true → Contains labels label
      → AllByRecursion P (flat_map steps_for labels) → P (Imports label)
  import_among P labels label moved among each = by_place labels among.0 among.1 among.2 each
    where
      of_first : (l : List ℕ) → l ≡ label → AllByRecursion P (steps_for l) → P (Imports label)
      of_first l same each =
          let here : AllByRecursion P (steps_by true label) = subst (λ t. AllByRecursion P (steps_by t label)) moved (subst (λ x. AllByRecursion P (steps_for x)) same each) in
          here.1.0

      by_place : (ls : List (List ℕ)) (k : ℕ) → k < length ls → get_or ls k label ≡ label → AllByRecursion P (flat_map steps_for ls) → P (Imports label)
      by_place [] k within is each = absurd (omega arith)
      by_place (l ∷ ls) zero within is each = of_first l is (all_parts P (steps_for l) (flat_map steps_for ls) each).0
      by_place (l ∷ ls) (suc k) within is each = by_place ls k (omega (arith, within)) is (all_parts P (steps_for l) (flat_map steps_for ls) each).1

module _ (key : List ℕ → Denoted) where
  -- ---- what steps do

  abbrev pub carried : Step → List (Option Entry) → List (Option Entry)
  carried (Creates label) es = after_create label es
  carried (Imports label) es = after_import label (key label) es

  abbrev pub carried_all : List Step → List (Option Entry) → List (Option Entry)
  carried_all [] es = es
  carried_all (x ∷ xs) es = carried_all xs (carried x es)

  carried_append : (xs ys : List Step) (es : List (Option Entry)) → carried_all (xs ++ ys) es ≡ carried_all ys (carried_all xs es)
  carried_append [] ys es = refl
  carried_append (x ∷ xs) ys es = carried_append xs ys (carried x es)

  -- of another label nothing changes
  pub step_elsewhere : (label : List ℕ) (x : Step) (es : List (Option Entry)) → label_of x ≢ label → Finds label es (carried x es)
  step_elsewhere label (Creates other) es apart = create_elsewhere label other es apart
  step_elsewhere label (Imports other) es apart = import_elsewhere label other (key other) es apart

  pub steps_elsewhere : (label : List ℕ) (xs : List Step) (es : List (Option Entry)) → AllByRecursion (λ x. label_of x ≢ label) xs → Finds label es (carried_all xs es)
  steps_elsewhere label [] es apart = finds_itself label es
  steps_elsewhere label (x ∷ xs) es apart =
      finds_further label es (carried x es) (carried_all xs (carried x es)) (step_elsewhere label x es apart.0) (steps_elsewhere label xs (carried x es) apart.1)

  -- a label that is held stays in its cell
  step_stays : (label : List ℕ) (cell : ℕ) (x : Step) (es : List (Option Entry)) → cell_of label (directory es) ≡ Some cell → cell_of label (directory (carried x es)) ≡ Some cell
  step_stays label cell (Creates other) es held = (create_stays label other es (ap is_some held)).cell ∙ held
  step_stays label cell (Imports other) es held = ap (cell_of label) (import_directory other (key other) es) ∙ held

  pub steps_stay : (label : List ℕ) (cell : ℕ) (xs : List Step) (es : List (Option Entry)) → cell_of label (directory es) ≡ Some cell
      → cell_of label (directory (carried_all xs es)) ≡ Some cell
  steps_stay label cell [] es held = held
  steps_stay label cell (x ∷ xs) es held = steps_stay label cell xs (carried x es) (step_stays label cell x es held)

  -- ---- a step that is settled

  -- it changes nothing: the label is held, or has its key and nothing else
  abbrev pub IsSettled : List (Option Entry) → Step → Type 0
  IsSettled es (Creates label) = IsHeld label es
  IsSettled es (Imports label) = entry_found label es ≡ Some (entry label (Some (key label)))

  settled_still : (x : Step) (es : List (Option Entry)) → IsSettled es x → carried x es ≡ es
  settled_still (Creates label) es settled = create_held label es settled
  settled_still (Imports label) es settled = import_again label (key label) es settled

  -- it stays settled over any step
  settled_stays : (x y : Step) (es : List (Option Entry)) → IsSettled es x → IsSettled (carried y es) x
  settled_stays (Creates label) (Creates other) es settled = ap is_some (create_stays label other es settled).cell ∙ settled
  settled_stays (Creates label) (Imports other) es settled = ap (λ d. is_some (cell_of label d)) (import_directory other (key other) es) ∙ settled
  settled_stays (Imports label) (Creates other) es settled = (create_stays label other es (held_with_entry label es (entry label (Some (key label))) settled)).same ∙ settled
  settled_stays (Imports label) (Imports other) es settled = ⊎_elim
      (λ (same : other ≡ label). ap (λ l. entry_found label (after_import l (key l) es)) same ∙ (ap (entry_found label) (import_again label (key label) es settled) ∙ settled))
      (λ (apart : other ≢ label). (import_elsewhere label other (key other) es apart).same ∙ settled)
      (same_or_other other label)

  stays_along : (x : Step) (xs : List Step) (es : List (Option Entry)) → IsSettled es x → IsSettled (carried_all xs es) x
  stays_along x [] es settled = settled
  stays_along x (y ∷ ys) es settled = stays_along x ys (carried y es) (settled_stays x y es settled)

  abbrev pub AreSettled : List (Option Entry) → List Step → Type 0
  AreSettled es xs = AllByRecursion (IsSettled es) xs

  settled_change_nothing : (xs : List Step) (es : List (Option Entry)) → AreSettled es xs → carried_all xs es ≡ es
  settled_change_nothing [] es settled = refl
  settled_change_nothing (x ∷ xs) es settled =
      ap (carried_all xs) (settled_still x es settled.0) ∙ settled_change_nothing xs es settled.1

  -- ---- steps that settle

  -- each is settled once it is carried out
  abbrev pub Settle : List Step → List (Option Entry) → Type 0
  Settle [] es = ⊤
  Settle (x ∷ xs) es = IsSettled (carried x es) x × Settle xs (carried x es)

  -- so all are in the end
  pub settled_then : (xs : List Step) (es : List (Option Entry)) → Settle xs es → AreSettled (carried_all xs es) xs
  settled_then [] es settle = tt
  settled_then (x ∷ xs) es settle = (stays_along x xs (carried x es) settle.0, settled_then xs (carried x es) settle.1)

  settle_take : (n : ℕ) (xs : List Step) (es : List (Option Entry)) → Settle xs es → Settle (take n xs) es
  settle_take zero xs es settle = tt
  settle_take (suc n) [] es settle = tt
  settle_take (suc n) (x ∷ xs) es settle = (settle.0, settle_take n xs (carried x es) settle.1)

  -- ---- steps that come again

  -- where the first k steps are settled, the first m do what some steps after those k do
  skips : (xs : List Step) (m k : ℕ) (es : List (Option Entry)) → AreSettled es (take k xs) → (j : ℕ) × (carried_all (take m xs) es ≡ carried_all (take j (drop k xs)) es)
  skips xs zero k es settled = (0, refl)
  skips xs (suc m) zero es settled = (suc m, refl)
  skips [] (suc m) (suc k) es settled = (0, refl)
  skips (x ∷ xs) (suc m) (suc k) es settled =
      let later = skips xs m k es settled.1 in
      (later.0, ap (carried_all (take m xs)) (settled_still x es settled.0) ∙ later.1)

  -- the first k steps, and some after those
  goes_on : (xs : List Step) (j k : ℕ) (es : List (Option Entry)) → (i : ℕ) × (carried_all (take j (drop k xs)) (carried_all (take k xs) es) ≡ carried_all (take i xs) es)
  goes_on xs j zero es = (j, refl)
  goes_on [] zero (suc k) es = (0, refl)
  goes_on [] (suc j) (suc k) es = (0, refl)
  goes_on (x ∷ xs) j (suc k) es = let later = goes_on xs j k (carried x es) in (suc later.0, later.1)

  module _ (xs : List Step) (es : List (Option Entry)) (settle : Settle xs es) where
    -- the places after the first so many steps
    abbrev after_first : ℕ → List (Option Entry)
    after_first k = carried_all (take k xs) es

    settled_first : (k : ℕ) → AreSettled (after_first k) (take k xs)
    settled_first k = settled_then (take k xs) es (settle_take k xs es settle)

    first_again : (m k : ℕ) → (i : ℕ) × (carried_all (take m xs) (after_first k) ≡ after_first i)
    first_again m k =
        let skipped = skips xs m k (after_first k) (settled_first k) in
        let on = goes_on xs skipped.0 k es in
        (on.0, skipped.1 ∙ on.1)

    firsts_again : (counts : List ℕ) (k : ℕ) → (i : ℕ) × (carried_all (flat_map (λ count. take count xs) counts) (after_first k) ≡ after_first i)
    firsts_again [] k = (k, refl)
    firsts_again (m ∷ counts) k =
        let one = first_again m k in
        let others = firsts_again counts one.0 in
        let rest : List Step = flat_map (λ count. take count xs) counts in
        (others.0, carried_append (take m xs) rest (after_first k) ∙ (ap (carried_all rest) one.1 ∙ others.1))

    -- all steps, after the first so many
    all_again_is : (k : ℕ) → carried_all xs (after_first k) ≡ carried_all xs es
    all_again_is k =
        let parts : take k xs ++ drop k xs ≡ xs = take-append-drop k xs in
        ap (λ ys. carried_all ys (after_first k)) (sym parts)
        ∙ (carried_append (take k xs) (drop k xs) (after_first k)
        ∙ (ap (carried_all (drop k xs)) (settled_change_nothing (take k xs) (after_first k) (settled_first k))
        ∙ (sym (carried_append (take k xs) (drop k xs) es) ∙ ap (λ ys. carried_all ys es) parts)))

    pub reruns_are_one : (counts : List ℕ) → carried_all (again counts xs) es ≡ carried_all xs es
    reruns_are_one counts =
        let before = firsts_again counts 0 in
        carried_append (flat_map (λ count. take count xs) counts) xs es
        ∙ (ap (carried_all xs) before.1 ∙ all_again_is before.0)

  -- ---- room

  further : (label : List ℕ) (labels all : List (List ℕ)) → ((l : List ℕ) → Contains (label ∷ labels) l → Contains all l) → (l : List ℕ) → Contains labels l → Contains all l
  further label labels all among l there = among l (suc there.0, omega (arith, there.1), there.2)

  -- with room they settle
  pub they_settle : (moves : List ℕ → Bool) (all labels : List (List ℕ)) → ((l : List ℕ) → Contains labels l → Contains all l) → (es : List (Option Entry)) → HasRoom moves all es
      → Settle (flat_map (steps_for moves) labels) es
  they_settle moves all [] among es room = tt
  they_settle moves all (label ∷ labels) among es room =
      by_test (moves label) refl (λ fs roomy. they_settle moves all labels (further label labels all among) fs roomy)
    where
      by_test : (t : Bool) → moves label ≡ t → ((fs : List (Option Entry)) → HasRoom moves all fs → Settle (flat_map (steps_for moves) labels) fs)
          → Settle (steps_by moves t label ++ flat_map (steps_for moves) labels) es
      by_test true moved rest =
          let here : Contains all label = among label (0, omega arith, refl) in
          let held = held_after moves all label es room moved here in
          let roomy = room_imported moves all label (key label) (after_create label es) (room_created moves all label es room moved here) in
          (held, (import_gives label (key label) (after_create label es) held, rest (after_import label (key label) (after_create label es)) roomy))
      by_test false stays rest = rest es room
