-- The new register changes: what stood for the labels does so afterwards, and the memory knows them. No byte of the store
-- changes.
use Rattle.std.proofs.Common.{◌≡◌, ℕ, suc, ◌<◌, Bool, true, false, List, [], ◌∷◌, length, map, Option, None, Some, refl, sym, ap, ◌∙◌, subst, arith}
use Rattle.std.specs.Prelude.{◌||◌, bytes_eq}
use Rattle.std.proofs.lemmas.Slice.Eq.{bytes_eq-Decides}
use Rattle.device_cells.specs.Cells.{body}
use Rattle.key_tokens.specs.Denotes.{MasterKey, MasterKeys, Denoted, HaveDistinctPatterns}
use Rattle.record_bodies.specs.Ages.{any_old, is_ahead_entry, any_ahead_entry}
use Rattle.record_bodies.specs.Entries.{Entry, turned}
use Rattle.record_bodies.specs.RecordBody.{IsAhead, ReadsEntry, ReadsWhat}
use Rattle.record_bodies.specs.StoreStands.{StandsForLabels, KeepsLabels, Agrees, entry_at}
use Rattle.record_bodies.specs.Turning.{aged, after_turn}
use Rattle.record_bodies.specs.declared.rows.Row.{Row}
use Rattle.key_records.proofs.TurningLaws.{store_turns, memory_turns}
use Rattle.master_registers.specs.Masters.{NewRegister, Empty, Partial, Full, Masters, pattern_of_master, after_set, set_refused, same_pattern, has_pattern_of}
use Rattle.verb_rules.specs.Keys.{keys_of, master_key}
use Rattle.cca_roles.proofs.DirectoryLaws.{none_some}

-- ---- patterns

-- after SET the master keys have other patterns, where rules 25 and 26 are kept
pub set_apart : (m : Masters) → set_refused m ≡ false → same_pattern m ≡ false → HaveDistinctPatterns (keys_of (after_set m))
set_apart m state same = by_registers m.coming m.current state same
  where
    by_registers : (coming : NewRegister) (current : Option (List ℕ)) → set_refused (record { coming = coming; current = current; former = None }) ≡ false → has_pattern_of coming current ≡ false
        → HaveDistinctPatterns (keys_of (after_set (record { coming = coming; current = current; former = None })))
    by_registers Empty current state same = let no : true ≡ false = state in cc no
    by_registers (Partial bytes) current state same = let no : true ≡ false = state in cc no
    by_registers (Full bytes) None state same = λ a b is_a is_b. cc is_b
    by_registers (Full bytes) (Some old) state same = λ a b is_a is_b alike.
        let a_pattern : pattern_of_master bytes ≡ a.pattern = ap (λ (k : MasterKey). k.pattern) (made_is bytes a is_a) in
        let b_pattern : pattern_of_master old ≡ b.pattern = ap (λ (k : MasterKey). k.pattern) (made_is old b is_b) in
        let equal : bytes_eq (pattern_of_master old) (pattern_of_master bytes) ≡ true =
        (bytes_eq-Decides (pattern_of_master old) (pattern_of_master bytes)).1 (b_pattern ∙ sym alike ∙ sym a_pattern) in
        let no : true ≡ false = sym equal ∙ same in cc no
      where
        made_is : (bytes : List ℕ) (key : MasterKey) → master_key (Some bytes) ≡ Some key → record { key = bytes; pattern = pattern_of_master bytes } ≡ key
        made_is bytes key is = cc is

-- ---- SET

pub turn_is : (m : Masters) → set_refused m ≡ false → keys_of (after_set m) ≡ after_turn (keys_of m)
turn_is m state = by_coming m.coming state
  where
    by_coming : (coming : NewRegister) → set_refused (record { coming = coming; current = m.current; former = m.former }) ≡ false
        → keys_of (after_set (record { coming = coming; current = m.current; former = m.former })) ≡ after_turn (keys_of (record { coming = coming; current = m.current; former = m.former }))
    by_coming Empty state = let wrong : true ≡ false = state in absurd (cc wrong)
    by_coming (Partial bytes) state = let wrong : true ≡ false = state in absurd (cc wrong)
    by_coming (Full bytes) state = refl

module _ (m : Masters) (state : set_refused m ≡ false) (same : same_pattern m ≡ false) (apart : HaveDistinctPatterns (keys_of m)) where
  next_apart : HaveDistinctPatterns (after_turn (keys_of m))
  next_apart = subst HaveDistinctPatterns (turn_is m state) (set_apart m state same)

  pub store_ages : (image : List ℕ) (s : List (Option Entry)) → any_old s ≡ false → StandsForLabels (keys_of m) image s → StandsForLabels (keys_of (after_set m)) image (aged (keys_of m) s)
  store_ages image s none stands =
      subst (λ (k : MasterKeys). StandsForLabels k image (aged (keys_of m) s)) (sym (turn_is m state)) (store_turns (keys_of m) apart next_apart image s none stands)

  pub memory_ages : (rows : List (Option Row)) (image : List ℕ) (s : List (Option Entry)) → any_old s ≡ false → KeepsLabels (keys_of m) rows s image
      → Agrees (keys_of (after_set m)) (map turned rows) (aged (keys_of m) s)
  memory_ages rows image s none keeps =
      subst (λ (k : MasterKeys). Agrees k (map turned rows) (aged (keys_of m) s)) (sym (turn_is m state)) (memory_turns (keys_of m) rows image s none keeps)

-- ---- while the new register isn't full no label is ahead

entry_behind : (masters : MasterKeys) (bytes : List ℕ) (o : Option Entry) → masters.coming ≡ None → ReadsEntry masters bytes o → is_ahead_entry o ≡ false
entry_behind masters bytes None none reads = refl
entry_behind masters bytes (Some e) none reads = by_what e.what e.ahead e.unused reads.1
  where
    by_what : (what : Option Denoted) (ahead : Bool) (unused : Option (List ℕ)) → ReadsWhat masters bytes e.label what ahead unused → ahead ≡ false
    by_what None ahead unused reads = reads.1
    by_what (Some key) false unused reads = refl
    by_what (Some key) true unused reads = let a : IsAhead masters bytes e.label reads.token key = reads.body.0 in absurd (none_some a.coming (sym none ∙ a.is_coming))

all_behind : (s : List (Option Entry)) → ((n : ℕ) → n < length s → is_ahead_entry (entry_at s n) ≡ false) → any_ahead_entry s ≡ false
all_behind [] each = refl
all_behind (e ∷ s) each =
    ap (λ b. b || any_ahead_entry s) (each 0 (omega arith)) ∙ all_behind s (λ n within. each (suc n) (omega (arith, within)))

pub none_ahead : (masters : MasterKeys) (image : List ℕ) (s : List (Option Entry)) → masters.coming ≡ None → StandsForLabels masters image s → any_ahead_entry s ≡ false
none_ahead masters image s none stands =
    all_behind s (λ n within. entry_behind masters (body image n) (entry_at s n) none (stands.reads n (omega (arith, within, stands.size))))
