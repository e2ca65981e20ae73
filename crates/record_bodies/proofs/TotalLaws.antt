-- A store of bytes stands for a state, or else it has a first damaged cell.
use Rattle.std.proofs.Common.{◌≡◌, ◌≤◌, ◌<◌, ◌+◌, ◌⊎◌, inl, inr, ⊎_elim, ℕ, zero, suc, Bool, true, false, List, length, set, replicate, Option, None, Some, refl, sym, ap, subst, ◌∙◌, arith}
use Rattle.std.specs.Prelude.{slice_index, is_some, IsSome, IsTrue}
use Rattle.std.proofs.lemmas.Bool.{cases_eq}
use Rattle.device_cells.proofs.CellSteps.{selected_below}
use Rattle.key_cells.specs.Bytes.{AreBytes, IsZero}
use Rattle.cca_vectors.specs.Checks.{first_failing}
use Rattle.cca_vectors.specs.Vectors.{length_of}
use Rattle.device_cells.specs.Cells.{body, body_place, selected}
use Rattle.key_tokens.specs.Denotes.{Denoted, MasterKey, MasterKeys}
use Rattle.key_tokens.specs.Fields.{vector_bytes_of}
use Rattle.key_tokens.specs.TokenChecks.{token_checks}
use Rattle.key_tokens.specs.declared.key_token.Age.{Age}
use Rattle.key_tokens.specs.declared.key_token.Age.TheVariants.{Current, Old}
use Rattle.key_tokens.specs.declared.key_token.Asked.TheVariants.{Internal}
use Rattle.record_bodies.specs.Labels.{IsLabel, is_label}
use Rattle.record_bodies.specs.Directory.{AreApart, cell_of}
use Rattle.record_bodies.specs.Entries.{Entry, remembered, row_directory, row_label, entry_label}
use Rattle.record_bodies.specs.Opening.{OpenedTo}
use Rattle.record_bodies.specs.RecordBody.{ReadsEntry, IsWhat, IsBoth, IsPair, is_turned, second_of, entry_in, record_body, blank_body, no_token, no_second, kept, label_in, token_in, second_in, null_kind, key_kind, both_kind}
use Rattle.record_bodies.specs.Rows.{AreRows}
use Rattle.record_bodies.specs.StoreStands.{StandsForLabels, labels_in, IsFirstDamaged}
use Rattle.record_bodies.specs.declared.rows.Row.{Row}
use Rattle.record_bodies.specs.declared.rows.Second.{Second}
use Rattle.record_bodies.proofs.SecondLaws.{same_second, slice_bytes}
use Rattle.record_bodies.proofs.BodyLaws.{spelled, spelled_label, spelled_again, spelled_what, entry_blank, entry_reads}
use Rattle.cca_roles.proofs.DirectoryLaws.{none_some, apart_set, apart_none, held_somewhere, held_nowhere}
use Rattle.record_bodies.proofs.OpeningLaws.{label_remembered, opened_none, opened_more, opened_all, refused_damaged}
use Rattle.record_bodies.proofs.RowLaws.{blank_rows, rows_set}
use Rattle.std.proofs.lemmas.Option.{same_Some}
use Rattle.cca_roles.proofs.DecidableLaws.{Decidable, both_decidable, by_bool, same_bytes}

-- ---- what is decided

either : (P Q : Type 0) → Decidable P → Decidable Q → Decidable (P ⊎ Q)
either P Q (inl p) q = inl (inl p)
either P Q (inr p) (inl q) = inl (inr q)
either P Q (inr p) (inr q) = inr (λ any. ⊎_elim p q any)

three : (P Q R : Type 0) → Decidable P → Decidable Q → Decidable R → Decidable (P × Q × R)
three P Q R (inl p) (inl q) (inl r) = inl (p, q, r)
three P Q R (inl p) (inl q) (inr r) = inr (λ all. r all.2)
three P Q R (inl p) (inr q) r = inr (λ all. q all.1)
three P Q R (inr p) q r = inr (λ all. p all.0)

follows : (P Q : Type 0) → Decidable P → Decidable Q → Decidable (P → Q)
follows P Q (inl p) (inl q) = inl (λ _. q)
follows P Q (inl p) (inr q) = inr (λ f. q (f p))
follows P Q (inr p) q = inl (λ is. absurd (p is))

decided_none : (o : Option ℕ) → Decidable (o ≡ None)
decided_none None = inl refl
decided_none (Some x) = inr (λ is. let wrong : Some x ≡ None = is in cc)

decided_age : (age : Age) → Decidable (age ≡ Current)
decided_age Current = inl refl
decided_age Old = inr (λ is. let wrong : Old ≡ Current = is in cc)

decided_second : (a b : Second) → Decidable (a ≡ b)
decided_second a b = by_parts (three (a.pattern.bytes ≡ b.pattern.bytes) (a.sealed.left ≡ b.sealed.left) (a.sealed.right ≡ b.sealed.right)
    (same_bytes a.pattern.bytes b.pattern.bytes) (same_bytes a.sealed.left b.sealed.left) (same_bytes a.sealed.right b.sealed.right))
  where
    by_parts : Decidable ((a.pattern.bytes ≡ b.pattern.bytes) × (a.sealed.left ≡ b.sealed.left) × (a.sealed.right ≡ b.sealed.right)) → Decidable (a ≡ b)
    by_parts (inl is) = inl (same_second a b is.0 is.1 is.2)
    by_parts (inr isnt) = inr (λ is. isnt (ap (λ (s : Second). s.pattern.bytes) is, ap (λ (s : Second). s.sealed.left) is, ap (λ (s : Second). s.sealed.right) is))

-- ---- two tokens

decided_pair : (masters : MasterKeys) (token : List ℕ) (second : Second) → Decidable (IsPair masters token second)
decided_pair masters token second = by_key (kept masters token) refl masters.coming refl
  where
    by_key : (o : Option Denoted) → kept masters token ≡ o → (c : Option MasterKey) → masters.coming ≡ c → Decidable (IsPair masters token second)
    by_key None is c is_coming = inr (λ p. none_some p.key (sym is ∙ p.is_kept))
    by_key (Some key) is None is_coming = inr (λ p. none_some p.coming (sym is_coming ∙ p.is_coming))
    by_key (Some key) is (Some coming) is_coming = by_parts (both_decidable (key.age ≡ Current) (second ≡ second_of coming key.clear) (decided_age key.age) (decided_second second (second_of coming key.clear)))
      where
        by_parts : Decidable ((key.age ≡ Current) × (second ≡ second_of coming key.clear)) → Decidable (IsPair masters token second)
        by_parts (inl parts) = inl (record { key = key; is_kept = is; current = parts.0; coming = coming; is_coming = is_coming; sealed = parts.1 })
        by_parts (inr parts) = inr (λ p.
            let same : p.key ≡ key = same_Some p.key key (sym p.is_kept ∙ is) in
            let master : p.coming ≡ coming = same_Some p.coming coming (sym p.is_coming ∙ is_coming) in
            parts (
              ap (λ (k : Denoted). k.age) (sym same) ∙ p.current,
              p.sealed ∙ ap (λ (m : MasterKey). second_of m p.key.clear) master ∙ ap (λ (k : Denoted). second_of coming k.clear) same,
            ))

-- the bytes of what stands in a body
record HasBytes (token : List ℕ) (second : Second) : Type 0 where
  token_are : AreBytes 64 token
  pattern_are : AreBytes 8 second.pattern.bytes
  left_are : AreBytes 8 second.sealed.left
  right_are : AreBytes 8 second.sealed.right

abbrev Sound : List ℕ → Type 0
Sound token = (first_failing (token_checks Internal token) ≡ None) × (slice_index token 6 ≡ 0xc0)

abbrev Single : List ℕ → Second → Type 0
Single token second = length_of (vector_bytes_of token) ≡ 8 → IsZero second.sealed.right

decided_both : (masters : MasterKeys) (token : List ℕ) (second : Second) → HasBytes token second → Decidable (IsBoth masters token second)
decided_both masters token second are = by_parts
    (three (Sound token) (Single token second) (IsTrue (is_turned masters token second) ⊎ IsPair masters token second)
    (both_decidable (first_failing (token_checks Internal token) ≡ None) (slice_index token 6 ≡ 0xc0) (decided_none (first_failing (token_checks Internal token))) (cases_eq (slice_index token 6) 0xc0))
    (follows (length_of (vector_bytes_of token) ≡ 8) (IsZero second.sealed.right) (cases_eq (length_of (vector_bytes_of token)) 8) (same_bytes second.sealed.right (replicate (length second.sealed.right) 0)))
    (either (IsTrue (is_turned masters token second)) (IsPair masters token second) (by_bool (is_turned masters token second)) (decided_pair masters token second)))
  where
    by_parts : Decidable (Sound token × Single token second × (IsTrue (is_turned masters token second) ⊎ IsPair masters token second)) → Decidable (IsBoth masters token second)
    by_parts (inl is) = inl (record {
      is_first = record { bytes = are.token_are; sound = is.0.0; flag = is.0.1 };
      is_second = record { pattern = are.pattern_are; left = are.left_are; right = are.right_are; single = is.1 };
      either = is.2;
    })
    by_parts (inr isnt) = inr (λ b. isnt ((b.is_first.sound, b.is_first.flag), b.is_second.single, b.either))

decided_what : (masters : MasterKeys) (kind : ℕ) (token : List ℕ) (second : Second) → HasBytes token second → Decidable (IsWhat masters kind token second)
decided_what masters kind token second are =
    either ((kind ≡ null_kind) × (token ≡ no_token) × (second ≡ no_second)) (((kind ≡ key_kind) × (second ≡ no_second) × IsSome (kept masters token)) ⊎ ((kind ≡ both_kind) × IsBoth masters token second))
    (three (kind ≡ null_kind) (token ≡ no_token) (second ≡ no_second) (cases_eq kind null_kind) (same_bytes token no_token) (decided_second second no_second))
    (either ((kind ≡ key_kind) × (second ≡ no_second) × IsSome (kept masters token)) ((kind ≡ both_kind) × IsBoth masters token second)
    (three (kind ≡ key_kind) (second ≡ no_second) (IsSome (kept masters token)) (cases_eq kind key_kind) (decided_second second no_second) (by_bool (is_some (kept masters token))))
    (both_decidable (kind ≡ both_kind) (IsBoth masters token second) (cases_eq kind both_kind) (decided_both masters token second are)))

abbrev ReadsNothing : MasterKeys → List ℕ → Type 0
ReadsNothing masters bytes = (e : Option Entry) → ReadsEntry masters bytes e → ⊥

decided_body : (masters : MasterKeys) (bytes : List ℕ) → HasBytes (token_in bytes) (second_in bytes) → ReadsEntry masters bytes (entry_in masters bytes) ⊎ ReadsNothing masters bytes
decided_body masters bytes are = ⊎_elim
    (λ (blank : bytes ≡ blank_body). inl (subst (ReadsEntry masters bytes) (sym (entry_blank masters bytes blank)) blank))
    (λ (some : bytes ≡ blank_body → ⊥). ⊎_elim
    (λ (is_label : IsLabel (label_in bytes)). ⊎_elim
    (λ (is : bytes ≡ record_body (slice_index bytes 0) (label_in bytes) (token_in bytes) (second_in bytes)). ⊎_elim
    (λ (what : IsWhat masters (slice_index bytes 0) (token_in bytes) (second_in bytes)).
    inl (entry_reads masters bytes (slice_index bytes 0) (label_in bytes) (token_in bytes) (second_in bytes) is is_label are.token_are
    (record { pattern = are.pattern_are.size; left = are.left_are.size; right = are.right_are.size }) what))
    (λ (no_what : IsWhat masters (slice_index bytes 0) (token_in bytes) (second_in bytes) → ⊥). inr (λ e reads. no_what (spelled_what masters bytes (spelled masters bytes e some reads))))
    (decided_what masters (slice_index bytes 0) (token_in bytes) (second_in bytes) are))
    (λ (isnt : bytes ≡ record_body (slice_index bytes 0) (label_in bytes) (token_in bytes) (second_in bytes) → ⊥). inr (λ e reads. isnt (spelled_again masters bytes (spelled masters bytes e some reads))))
    (same_bytes bytes (record_body (slice_index bytes 0) (label_in bytes) (token_in bytes) (second_in bytes))))
    (λ (no_label : IsLabel (label_in bytes) → ⊥). inr (λ e reads. let s = spelled masters bytes e some reads in no_label (subst IsLabel (sym (spelled_label masters bytes s)) s.is_label)))
    (by_bool (is_label (label_in bytes))))
    (same_bytes bytes blank_body)

-- ---- the bytes of a store

body_bytes : (image : List ℕ) (n : ℕ) → AreBytes 1572864 image → n < 1024 → AreBytes 192 (body image n)
unfolding body
body_bytes image n are below = slice_bytes 1572864 (body_place n (selected image n)) 192 image are (omega (arith, selected_below image n, below))

has_bytes : (image : List ℕ) (n : ℕ) → AreBytes 1572864 image → n < 1024 → HasBytes (token_in (body image n)) (second_in (body image n))
has_bytes image n are below =
    let whole = body_bytes image n are below in
    record {
      token_are = slice_bytes 192 66 64 (body image n) whole (omega arith);
      pattern_are = slice_bytes 192 130 8 (body image n) whole (omega arith);
      left_are = slice_bytes 192 138 8 (body image n) whole (omega arith);
      right_are = slice_bytes 192 146 8 (body image n) whole (omega arith);
    }

-- ---- cell by cell

module _ (masters : MasterKeys) (image : List ℕ) (are : AreBytes 1572864 image) where
  abbrev Come : ℕ → Type 0
  Come n = (rows : List (Option Row)) × OpenedTo masters image n rows × AreRows rows

  abbrev Stuck : Type 0
  Stuck = (k : ℕ) × IsFirstDamaged masters image k

  come_more : (n : ℕ) (e : Option Entry) (c : Come n) → n < 1024 → entry_in masters (body image n) ≡ e → ReadsEntry masters (body image n) (entry_in masters (body image n)) → AreApart (set (row_directory c.0) n (entry_label e)) → Come (n + 1)
  come_more n e c below is reads apart =
      let row : Option Row = remembered masters (entry_in masters (body image n)) in
      let label : row_label row ≡ entry_label e = label_remembered masters (entry_in masters (body image n)) ∙ ap entry_label is in (
        set c.0 n row,
        opened_more masters image n c.0 c.1 (set c.0 n row) (omega (arith, c.2.size, below)) (record { reads = reads; rows = refl }),
        rows_set c.0 c.0 n row c.2 refl (subst (λ (l : Option (List ℕ)). AreApart (set (row_directory c.0) n l)) (sym label) apart),
      )

  step : (n : ℕ) (e : Option Entry) → n < 1024 → Come n → entry_in masters (body image n) ≡ e → ReadsEntry masters (body image n) (entry_in masters (body image n)) → Come (n + 1) ⊎ Stuck
  step n None below c is reads = inl (come_more n None c below is reads (apart_none (row_directory c.0) n c.2.apart))
  step n (Some e) below c is reads = by_held (is_some (cell_of e.label (row_directory c.0))) refl
    where
      by_held : (b : Bool) → is_some (cell_of e.label (row_directory c.0)) ≡ b → Come (n + 1) ⊎ Stuck
      by_held true held = let there = held_somewhere e.label (row_directory c.0) held in
          inr (n, refused_damaged masters image n c.0 c.1 c.2 below (inr (e, subst (ReadsEntry masters (body image n)) is reads, there.0, there.1)))
      by_held false missing = inl (come_more n (Some e) c below is reads (apart_set (row_directory c.0) n e.label c.2.apart (held_nowhere e.label (row_directory c.0) missing)))

  scan : (n : ℕ) → n ≤ 1024 → Come n ⊎ Stuck
  scan zero within = inl (replicate 1024 None, opened_none masters image (replicate 1024 None) refl, blank_rows (replicate 1024 None) 1024 refl refl)
  scan (suc n) within = ⊎_elim
      (λ (c : Come n). ⊎_elim
      (λ (reads : ReadsEntry masters (body image n) (entry_in masters (body image n))). subst (λ (k : ℕ). Come k ⊎ Stuck) (omega arith) (step n (entry_in masters (body image n)) (omega (arith, within)) c refl reads))
      (λ (nothing : ReadsNothing masters (body image n)). inr (n, refused_damaged masters image n c.0 c.1 c.2 (omega (arith, within)) (inl nothing)))
      (decided_body masters (body image n) (has_bytes image n are (omega (arith, within)))))
      (λ (stuck : Stuck). inr stuck)
      (scan n (omega (arith, within)))

  pub stands_or_damaged : StandsForLabels masters image (labels_in masters image) ⊎ ((k : ℕ) × IsFirstDamaged masters image k)
  stands_or_damaged = ⊎_elim (λ (c : Come 1024). inl (opened_all masters image c.0 c.1 c.2).stands) (λ (stuck : Stuck). inr stuck) (scan 1024 (omega arith))
