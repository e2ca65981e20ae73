-- The labels under the old master key are those whose tokens have its pattern.
use Rattle.std.proofs.Common.{◌≡◌, ◌<◌, ⊎_elim, ℕ, suc, Bool, false, List, [], ◌∷◌, length, get_or, map, Option, None, Some, refl, sym, ap, subst, ◌∙◌, arith}
use Rattle.std.specs.Prelude.{slice_index, bytes_eq, ◌||◌}
use Rattle.std.specs.List.{list_any}
use Rattle.std.proofs.lemmas.Bool.{cases_eq, false_from_ne_true}
use Rattle.std.proofs.lemmas.Slice.Eq.{bytes_eq-Decides}
use Rattle.key_cells.specs.Bytes.{AreBytes}
use Rattle.key_tokens.specs.Denotes.{MasterKey, MasterKeys, Denoted, Denotes, HaveDistinctPatterns, denoted}
use Rattle.key_tokens.specs.declared.key_token.Age.{Age}
use Rattle.key_tokens.specs.declared.key_token.Age.TheVariants.{Current, Old}
use Rattle.key_tokens.proofs.DenotedKeys.{denotes_one}
use Rattle.master_registers.specs.declared.patterns.Pattern.{Pattern}
use Rattle.device_cells.specs.Cells.{body}
use Rattle.record_bodies.specs.Ages.{is_old, has_old_key, is_old_entry, any_old}
use Rattle.key_records.specs.Changes.{any_under, is_under}
use Rattle.record_bodies.specs.Entries.{Entry, remembered, pattern_for, pattern_under, pattern_or}
use Rattle.record_bodies.specs.RecordBody.{kept, ReadsEntry, ReadsWhat}
use Rattle.record_bodies.specs.StoreStands.{KeepsLabels, entry_at}
use Rattle.record_bodies.specs.declared.rows.Row.{Row}
use Rattle.cca_roles.proofs.DirectoryLaws.{none_some}
use Rattle.record_bodies.proofs.KeptLaws.{kept_flag, kept_with_flag}

pub kept_denoted : (masters : MasterKeys) (token : List ℕ) (key : Denoted) → kept masters token ≡ Some key → denoted masters token ≡ Some key
kept_denoted masters token key is = ⊎_elim
    (λ (flag : slice_index token 6 ≡ 0xc0). sym (kept_with_flag masters token flag) ∙ is)
    (λ (other : slice_index token 6 ≡ 0xc0 → ⊥). absurd (none_some key (sym (kept_flag masters token other) ∙ is)))
    (cases_eq (slice_index token 6) 0xc0)

-- the same test at each place of a list
any_same : {A B : Type 0} (f : B → Bool) (g : A → B) (h : A → Bool) (default : A) (s : List A) → ((n : ℕ) → n < length s → f (g (get_or s n default)) ≡ h (get_or s n default)) → list_any f (map g s) ≡ list_any h s
any_same f g h default [] same = refl
any_same f g h default (x ∷ s) same =
    ap (λ b. b || list_any f (map g s)) (same 0 (omega arith))
    ∙ ap (λ b. h x || b) (any_same f g h default s (λ n within. same (suc n) (omega (arith, within))))

module _ (masters : MasterKeys) (apart : HaveDistinctPatterns masters) (former : MasterKey) (is_former : masters.former ≡ Some former) where
  abbrev old_pattern : Pattern
  old_pattern = record { bytes = former.pattern }

  key_under : (token : List ℕ) (key : Denoted) → AreBytes 64 token → kept masters token ≡ Some key → bytes_eq (pattern_for masters key).bytes former.pattern ≡ is_old key.age
  key_under token key are is = by_age key.age refl
    where
      by_age : (age : Age) → key.age ≡ age → bytes_eq (pattern_for masters key).bytes former.pattern ≡ is_old key.age
      by_age Old old =
          (bytes_eq-Decides (pattern_for masters key).bytes former.pattern).1
          (ap (λ a. (pattern_under masters a).bytes) old ∙ ap (λ r. (pattern_or r).bytes) is_former)
          ∙ sym (ap (λ a. is_old a) old)
      by_age Current current =
          let d = subst (λ (a : Age). Denotes masters token key.clear a) current ((denotes_one masters [] token are apart).internal_back key.clear key.age (kept_denoted masters token key is)) in
          let under : (pattern_for masters key).bytes ≡ d.0.pattern = ap (λ a. (pattern_under masters a).bytes) current ∙ ap (λ r. (pattern_or r).bytes) d.1.0 in
          false_from_ne_true (bytes_eq (pattern_for masters key).bytes former.pattern)
          (λ same. apart d.0 former d.1.0 is_former (sym under ∙ (bytes_eq-Decides (pattern_for masters key).bytes former.pattern).0 same))
          ∙ sym (ap (λ a. is_old a) current)

  entry_under : (bytes : List ℕ) (e : Option Entry) → ReadsEntry masters bytes e → is_under old_pattern (remembered masters e) ≡ is_old_entry e
  entry_under bytes None reads = refl
  entry_under bytes (Some e) reads = by_what e.what reads.1
    where
      by_what : (what : Option Denoted) → ReadsWhat masters bytes e.label what e.ahead e.unused → is_under old_pattern (remembered masters (Some (record { label = e.label; what = what; ahead = e.ahead; unused = e.unused }))) ≡ has_old_key what
      by_what None is = refl
      by_what (Some key) is = key_under is.token key is.are is.is_kept

  pub old_labels : (rows : List (Option Row)) (s : List (Option Entry)) (image : List ℕ) → KeepsLabels masters rows s image → any_under old_pattern rows ≡ any_old s
  old_labels rows s image keeps =
      ap (any_under old_pattern) keeps.agrees
      ∙ any_same (λ row. is_under old_pattern row) (remembered masters) (λ e. is_old_entry e) None s
      (λ n within. entry_under (body image n) (entry_at s n) (keeps.stands.reads n (omega (arith, within, keeps.stands.size))))

-- where no master key is old, no label is under it
module _ (masters : MasterKeys) (apart : HaveDistinctPatterns masters) (none : masters.former ≡ None) where
  not_old : (token : List ℕ) (key : Denoted) → AreBytes 64 token → kept masters token ≡ Some key → is_old key.age ≡ false
  not_old token key are is = by_age key.age refl
    where
      by_age : (age : Age) → key.age ≡ age → is_old key.age ≡ false
      by_age Current current = ap (λ a. is_old a) current
      by_age Old old =
          let d = subst (λ (a : Age). Denotes masters token key.clear a) old ((denotes_one masters [] token are apart).internal_back key.clear key.age (kept_denoted masters token key is)) in
          absurd (none_some d.0 (sym none ∙ d.1.0))

  entry_not_old : (bytes : List ℕ) (e : Option Entry) → ReadsEntry masters bytes e → is_old_entry e ≡ false
  entry_not_old bytes None reads = refl
  entry_not_old bytes (Some e) reads = by_what e.what reads.1
    where
      by_what : (what : Option Denoted) → ReadsWhat masters bytes e.label what e.ahead e.unused → has_old_key what ≡ false
      by_what None is = refl
      by_what (Some key) is = not_old is.token key is.are is.is_kept

  none_old : (s : List (Option Entry)) → ((n : ℕ) → n < length s → is_old_entry (get_or s n None) ≡ false) → any_old s ≡ false
  none_old [] each = refl
  none_old (e ∷ s) each = ap (λ b. b || any_old s) (each 0 (omega arith)) ∙ none_old s (λ n within. each (suc n) (omega (arith, within)))

  pub no_old_labels : (rows : List (Option Row)) (s : List (Option Entry)) (image : List ℕ) → KeepsLabels masters rows s image → any_old s ≡ false
  no_old_labels rows s image keeps = none_old s (λ n within. entry_not_old (body image n) (entry_at s n) (keeps.stands.reads n (omega (arith, within, keeps.stands.size))))
