-- What a label finds in a list of places, before a change and after it.
use Rattle.std.proofs.Common.{◌≡◌, ◌≢◌, ℕ, zero, suc, ◌+◌, Bool, true, false, List, [], ◌∷◌, set, Option, None, Some, refl, sym, ap, subst, ◌∙◌, add-one, option_map, true≢false, arith}
use Rattle.std.specs.Prelude.{⊤, if◌then◌else◌}
use Rattle.std.proofs.lemmas.Option.{same_Some}
use Rattle.cca_roles.specs.Directory.{has_name, name_at, place_from, place_of, free_from, free_place}
use Rattle.cca_roles.proofs.DirectoryLaws.{has_name_is, held_at}
use Rattle.record_bodies.specs.LabelChanges.{with_what}
use Rattle.record_bodies.specs.Entries.{Entry, directory, entry_label}
use Rattle.record_bodies.specs.StoreStands.{entry_at}
use Rattle.record_bodies.specs.Turning.{aged, aged_entry, aged_key}
use Rattle.key_tokens.specs.Denotes.{ClearKey, Denoted, MasterKeys}
use Rattle.record_bodies.specs.Further.{changed_entry, further, made_by, under_current}
use Rattle.record_bodies.specs.declared.actions.StoreAction.{StoreAction}
use Rattle.record_bodies.specs.declared.actions.StoreAction.TheVariants.{Renew, Ahead, Drop}
use Rattle.cca_machine.specs.Keys.{what_at, what_in}
use Rattle.cca_machine.proofs.RerunLaws.{by_change}
use Rattle.cca_laws.specs.EachLabel.{entry_where}

-- ---- the first place with a label

-- what is in the first of these places that has the label
abbrev pub entry_for : List ℕ → List (Option Entry) → Option Entry
entry_for label [] = None
entry_for label (e ∷ es) = if has_name label (entry_label e) then e else entry_for label es

next : ℕ → ℕ
next n = n + 1

place_next : (label : List ℕ) (d : List (Option (List ℕ))) (at : ℕ) → place_from (at + 1) label d ≡ option_map next (place_from at label d)
unfolding next
place_next label [] at = refl
place_next label (n ∷ ns) at = by_test (has_name label n) (place_next label ns (at + 1))
  where
    by_test : (t : Bool) → place_from (at + 1 + 1) label ns ≡ option_map next (place_from (at + 1) label ns)
        → (if t then Some (at + 1) else place_from (at + 1 + 1) label ns) ≡ option_map next (if t then Some at else place_from (at + 1) label ns)
    by_test true later = refl
    by_test false later = later

entry_next : (e : Option Entry) (es : List (Option Entry)) (o : Option ℕ) → entry_where (e ∷ es) (option_map next o) ≡ entry_where es o
unfolding next
entry_next e es None = refl
entry_next e es (Some n) = ap (λ k. entry_at (e ∷ es) k) (add-one n)

-- what a label finds by its place
pub entry_is : (label : List ℕ) (es : List (Option Entry)) → entry_where es (place_of label (directory es)) ≡ entry_for label es
unfolding place_of
entry_is label [] = refl
entry_is label (e ∷ es) = by_test (has_name label (entry_label e)) (where_next ∙ entry_is label es)
  where
    where_next : entry_where (e ∷ es) (place_from 1 label (directory es)) ≡ entry_where es (place_of label (directory es))
    where_next = ap (entry_where (e ∷ es)) (place_next label (directory es) 0) ∙ entry_next e es (place_from 0 label (directory es))

    by_test : (t : Bool) → entry_where (e ∷ es) (place_from 1 label (directory es)) ≡ entry_for label es
        → entry_where (e ∷ es) (if t then Some 0 else place_from 1 label (directory es)) ≡ (if t then e else entry_for label es)
    by_test true later = refl
    by_test false later = later

pub what_where : (es : List (Option Entry)) (o : Option ℕ) → what_at es o ≡ what_in (entry_where es o)
what_where es None = refl
what_where es (Some n) = refl

pub key_is : (label : List ℕ) (es : List (Option Entry)) → what_at es (place_of label (directory es)) ≡ what_in (entry_for label es)
key_is label es = what_where es (place_of label (directory es)) ∙ ap what_in (entry_is label es)

-- ---- two lists that are alike for a label

-- how two entries compare
abbrev pub Compare : Type 1
Compare = Option Entry → Option Entry → Type 0

abbrev pub AreAlike : List ℕ → Compare → Option Entry → Option Entry → Type 0
AreAlike label R a b =
    (has_name label (entry_label b) ≡ has_name label (entry_label a)) × (has_name label (entry_label a) ≡ true → R a b)

-- place by place the label stands in both or in neither, and its entries compare
abbrev pub Alike : List ℕ → Compare → List (Option Entry) → List (Option Entry) → Type 0
Alike label R [] [] = ⊤
Alike label R [] (b ∷ bs) = ⊥
Alike label R (a ∷ as_) [] = ⊥
Alike label R (a ∷ as_) (b ∷ bs) = AreAlike label R a b × Alike label R as_ bs

pub same_place : (label : List ℕ) (R : Compare) (es fs : List (Option Entry)) (at : ℕ) → Alike label R es fs
    → place_from at label (directory fs) ≡ place_from at label (directory es)
same_place label R [] [] at alike = refl
same_place label R [] (f ∷ fs) at alike = absurd alike
same_place label R (e ∷ es) [] at alike = absurd alike
same_place label R (e ∷ es) (f ∷ fs) at alike =
    ap (λ t. if t then Some at else place_from (at + 1) label (directory fs)) alike.0.0
    ∙ ap (λ o. if has_name label (entry_label e) then Some at else o) (same_place label R es fs (at + 1) alike.1)

pub same_cell : (label : List ℕ) (R : Compare) (es fs : List (Option Entry)) → Alike label R es fs → place_of label (directory fs) ≡ place_of label (directory es)
unfolding place_of
same_cell label R es fs alike = same_place label R es fs 0 alike

pub entries_compare : (label : List ℕ) (R : Compare) → R None None → (es fs : List (Option Entry)) → Alike label R es fs → R (entry_for label es) (entry_for label fs)
entries_compare label R none [] [] alike = none
entries_compare label R none [] (f ∷ fs) alike = absurd alike
entries_compare label R none (e ∷ es) [] alike = absurd alike
entries_compare label R none (e ∷ es) (f ∷ fs) alike =
    subst (λ t. R (entry_for label (e ∷ es)) (if t then f else entry_for label fs)) (sym alike.0.0)
    (by_test (has_name label (entry_label e)) alike.0.1 (entries_compare label R none es fs alike.1))
  where
    by_test : (t : Bool) → (t ≡ true → R e f) → R (entry_for label es) (entry_for label fs)
        → R (if t then e else entry_for label es) (if t then f else entry_for label fs)
    by_test true here later = here refl
    by_test false here later = later

-- ---- the changes

abbrev pub Same : Compare
Same a b = a ≡ b

pub alike_itself : (label : List ℕ) (es : List (Option Entry)) → Alike label Same es es
alike_itself label [] = tt
alike_itself label (e ∷ es) = ((refl, λ has. refl), alike_itself label es)

-- a place that hasn't the label gets something else
pub alike_set : (label : List ℕ) (es : List (Option Entry)) (n : ℕ) (e : Option Entry) → has_name label (entry_label (entry_at es n)) ≡ false
    → has_name label (entry_label e) ≡ false → Alike label Same es (set es n e)
alike_set label [] n e before now = tt
alike_set label (x ∷ xs) zero e before now = ((now ∙ sym before, λ has. absurd (true≢false (sym has ∙ before))), alike_itself label xs)
alike_set label (x ∷ xs) (suc n) e before now = ((refl, λ has. refl), alike_set label xs n e before now)

abbrev pub clear_in : Option Denoted → Option ClearKey
clear_in o = option_map (λ key. key.clear) o

-- the same key, under the same master key
abbrev pub SameKey : Compare
SameKey a b = what_in b ≡ what_in a

abbrev pub SameClear : Compare
SameClear a b = clear_in (what_in b) ≡ clear_in (what_in a)

aged_clear : (o : Option Denoted) (ahead : Bool) → clear_in (aged_key o ahead) ≡ clear_in o
aged_clear None ahead = refl
aged_clear (Some key) true = refl
aged_clear (Some key) false = refl

alike_aged_entry : (masters : MasterKeys) (label : List ℕ) (e : Option Entry) → AreAlike label SameClear e (aged_entry masters e)
alike_aged_entry masters label None = (refl, λ has. refl)
alike_aged_entry masters label (Some e) = (refl, λ has. aged_clear e.what e.ahead)

pub alike_aged : (masters : MasterKeys) (label : List ℕ) (es : List (Option Entry)) → Alike label SameClear es (aged masters es)
alike_aged masters label [] = tt
alike_aged masters label (e ∷ es) = (alike_aged_entry masters label e, alike_aged masters label es)

-- ---- what an action of REENCIPHER makes of them

current_clear : (o : Option Denoted) → clear_in (under_current o) ≡ clear_in o
current_clear None = refl
current_clear (Some key) = refl

made_label : (a : StoreAction) (e : Entry) → (made_by a e).label ≡ e.label
made_label Renew e = refl
made_label Ahead e = refl
made_label Drop e = refl

made_clear : (a : StoreAction) (e : Entry) → clear_in (made_by a e).what ≡ clear_in e.what
made_clear Renew e = current_clear e.what
made_clear Ahead e = refl
made_clear Drop e = refl

pub changed_label : (a : StoreAction) (e : Option Entry) → entry_label (changed_entry a e) ≡ entry_label e
changed_label a None = refl
changed_label a (Some e) = ap (λ l. Some l) (by_change (λ f. f.label ≡ e.label) a e (made_label a e) refl)

-- AHEAD and DROP change no key, and no master key that one is under
abbrev pub KeepsKeys : StoreAction → Type 0
KeepsKeys Renew = ⊥
KeepsKeys Ahead = ⊤
KeepsKeys Drop = ⊤

made_key : (a : StoreAction) (e : Entry) → KeepsKeys a → (made_by a e).what ≡ e.what
made_key Renew e keeps = absurd keeps
made_key Ahead e keeps = refl
made_key Drop e keeps = refl

changed_clear : (a : StoreAction) (e : Option Entry) → SameClear e (changed_entry a e)
changed_clear a None = refl
changed_clear a (Some e) = by_change (λ f. clear_in f.what ≡ clear_in e.what) a e (made_clear a e) refl

changed_key : (a : StoreAction) → KeepsKeys a → (e : Option Entry) → SameKey e (changed_entry a e)
changed_key a keeps None = refl
changed_key a keeps (Some e) = by_change (λ f. f.what ≡ e.what) a e (made_key a e keeps) refl

-- where each entry compares with what the action makes of it
pub alike_further_by : (label : List ℕ) (R : Compare) (a : StoreAction) → ((e : Option Entry) → R e e) → ((e : Option Entry) → R e (changed_entry a e))
    → (es : List (Option Entry)) (n : ℕ) → Alike label R es (further a es n)
alike_further_by label R a same made es n = by_place es n
  where
    itself : (es : List (Option Entry)) → Alike label R es es
    itself [] = tt
    itself (e ∷ es) = ((refl, λ has. same e), itself es)

    by_place : (es : List (Option Entry)) (n : ℕ) → Alike label R es (further a es n)
    by_place [] n = tt
    by_place (e ∷ es) zero = itself (e ∷ es)
    by_place (e ∷ es) (suc n) = ((ap (has_name label) (changed_label a e), λ has. made e), by_place es n)

pub alike_further : (label : List ℕ) (a : StoreAction) (es : List (Option Entry)) (n : ℕ) → Alike label SameClear es (further a es n)
alike_further label a = alike_further_by label SameClear a (λ e. refl) (changed_clear a)

pub keys_further : (label : List ℕ) (a : StoreAction) → KeepsKeys a → (es : List (Option Entry)) (n : ℕ) → Alike label SameKey es (further a es n)
keys_further label a keeps = alike_further_by label SameKey a (λ e. refl) (changed_key a keeps)

-- ---- places

pub name_of_entry : (es : List (Option Entry)) (n : ℕ) → name_at (directory es) n ≡ entry_label (entry_at es n)
name_of_entry [] n = refl
name_of_entry (e ∷ es) zero = refl
name_of_entry (e ∷ es) (suc n) = name_of_entry es n

-- another label
pub has_other : (label other : List ℕ) → other ≢ label → has_name label (Some other) ≡ false
has_other label other apart = by_test (has_name label (Some other)) refl
  where
    by_test : (t : Bool) → has_name label (Some other) ≡ t → has_name label (Some other) ≡ false
    by_test true is = absurd (apart (same_Some other label (has_name_is label (Some other) is)))
    by_test false is = is

-- the place of another label hasn't this one
pub place_other : (label other : List ℕ) (es : List (Option Entry)) (n : ℕ) → other ≢ label → place_of other (directory es) ≡ Some n
    → has_name label (entry_label (entry_at es n)) ≡ false
place_other label other es n apart is =
    ap (has_name label) (sym (name_of_entry es n) ∙ held_at other (directory es) n is) ∙ has_other label other apart

-- the place that is free has no label
pub free_at : (d : List (Option (List ℕ))) (at : ℕ) → (n : ℕ) × (free_from at d ≡ at + n) × (name_at d n ≡ None)
free_at [] at = (0, omega arith, refl)
free_at (None ∷ ns) at = (0, omega arith, refl)
free_at (Some n ∷ ns) at = let later = free_at ns (at + 1) in (suc later.0, omega (arith, later.1), later.2)

pub free_has_none : (d : List (Option (List ℕ))) → name_at d (free_place d) ≡ None
unfolding free_place
free_has_none d =
    let found = free_at d 0 in
    let place : free_from 0 d ≡ found.0 = omega (arith, found.1) in
    ap (name_at d) place ∙ found.2

pub place_free : (label : List ℕ) (es : List (Option Entry)) → has_name label (entry_label (entry_at es (free_place (directory es)))) ≡ false
place_free label es = ap (has_name label) (sym (name_of_entry es (free_place (directory es))) ∙ free_has_none (directory es))

pub label_kept : (key : Denoted) (e : Option Entry) → entry_label (with_what key e) ≡ entry_label e
label_kept key None = refl
label_kept key (Some e) = refl

-- a comparison that is weaker
alike_weaker : (label : List ℕ) (R S : Compare) → ((a b : Option Entry) → R a b → S a b) → (es fs : List (Option Entry)) → Alike label R es fs → Alike label S es fs
alike_weaker label R S weaker [] [] alike = tt
alike_weaker label R S weaker [] (f ∷ fs) alike = absurd alike
alike_weaker label R S weaker (e ∷ es) [] alike = absurd alike
alike_weaker label R S weaker (e ∷ es) (f ∷ fs) alike =
    ((alike.0.0, λ has. weaker e f (alike.0.1 has)), alike_weaker label R S weaker es fs alike.1)

pub as_clear : (label : List ℕ) (es fs : List (Option Entry)) → Alike label Same es fs → Alike label SameClear es fs
as_clear label es fs alike = alike_weaker label Same SameClear (λ a b same. ap (λ e. clear_in (what_in e)) (sym same)) es fs alike
