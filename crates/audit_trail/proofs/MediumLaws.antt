-- An entry more on a disk.
use Rattle.std.proofs.Common.{◌≡◌, ◌<◌, ◌+◌, ◌%◌, ◌^◌, ◌⊎◌, inl, inr, ℕ, List, [], ◌∷◌, ◌++◌, length, Result, Ok, Err, refl, sym, ap, subst, ◌∙◌, arith}
use Rattle.std.specs.Prelude.{OnOk}
use Rattle.std.proofs.lemmas.List.{length-append}
use Rattle.std.proofs.lemmas.Option.{same_Some}
use Rattle.device_cells.specs.Cells.{body, IsReplaced, IsReplacing}
use Rattle.device_cells.specs.Medium.{Medium, IsSettled, Told, From, Becomes, EachImage}
use Rattle.device_cells.proofs.Media.{told_from, told_at, becomes_same, becomes_told, each_weaker, told_joined, told_map}
use Rattle.audit_trail.specs.Changes.{Appending, AppendsEntry}
use Rattle.audit_trail.specs.Entries.{IsEntry}
use Rattle.audit_trail.specs.RecordBody.{record_body}
use Rattle.audit_trail.specs.TrailStands.{IsTrail, StandsForTrail, IsFirstDamaged}
use Rattle.audit_trail.specs.declared.entries.Entry.{Entry}
use Rattle.audit_trail.specs.declared.faults.TrailFault.{TrailFault}
use Rattle.audit_trail.specs.declared.faults.TrailFault.TheVariants.{DiskFault, Damaged}
use Rattle.audit_trail.proofs.TrailLaws.{appending, number_is, appended}
use Rattle.audit_trail.proofs.OpeningLaws.{first_one}

module _ (next : ℕ) (e : Entry) (is : IsEntry e) (low : next < 2 ^ 63) (m0 m1 : Medium) (start : Told m0 (λ c. StandsForTrail c next)) where
  from : (c : List ℕ) → From (IsReplacing (next % 4096) (record_body next e)) m0 c → From (Appending next e) m0 c
  from c f = (f.0, f.1, appending next e f.0 c is low (told_at m0.content (λ c. StandsForTrail c next) f.0 f.1 start) f.2)

  entry_more : (es : List Entry) → Becomes (IsReplaced (next % 4096) (record_body next e)) m0 m1 → Told m0 (λ c. IsTrail c es) → Told m1 (λ c. IsTrail c (es ++ e ∷ []))
  entry_more es becomes trail =
      becomes_told m0 m1 (IsReplaced (next % 4096) (record_body next e)) (λ c. StandsForTrail c next × IsTrail c es) (λ c. IsTrail c (es ++ e ∷ [])) becomes
      (told_joined m0 (λ c. StandsForTrail c next) (λ c. IsTrail c es) (λ c. StandsForTrail c next × IsTrail c es) start trail (λ c x y. (x, y)))
      (λ d c both replaced.
      let number : length es ≡ next = number_is d next es both.0 both.1 in
      appended es e is d c both.1 (omega (arith, number, low))
      (ap (λ (k : ℕ). body c (k % 4096)) number ∙ replaced.here ∙ ap (λ (k : ℕ). record_body k e) (sym number))
      (λ n other. replaced.others n (λ (same : n ≡ next % 4096). other (same ∙ ap (λ (k : ℕ). k % 4096) (sym number)))))

  pub appends : (result : Result (Unit {0}) TrailFault) → OnOk result (IsSettled m1 × Becomes (IsReplaced (next % 4096) (record_body next e)) m0 m1)
      → Becomes (IsReplacing (next % 4096) (record_body next e)) m0 m1 → EachImage m0 m1 (From (IsReplacing (next % 4096) (record_body next e)) m0)
      → AppendsEntry next e m0 m1 result
  appends (Ok done) known becomes moments = record {
    settled = known.0;
    stands = λ es trail. entry_more es known.1 trail;
    replaced = known.1;
    either = record { size = becomes.size; told = λ c is. from c (becomes.told c is); still = becomes.still };
    moments = each_weaker m0 m1 (From (IsReplacing (next % 4096) (record_body next e)) m0) (From (Appending next e) m0) moments from;
  }
  appends (Err fault) known becomes moments = record {
    settled = tt;
    stands = λ es trail. tt;
    replaced = tt;
    either = record { size = becomes.size; told = λ c is. from c (becomes.told c is); still = becomes.still };
    moments = each_weaker m0 m1 (From (IsReplacing (next % 4096) (record_body next e)) m0) (From (Appending next e) m0) moments from;
  }

-- a trail that is as before, after an error
appending_none : (next : ℕ) (e : Entry) (c : List ℕ) → Appending next e c c
appending_none next e c = record {
  outside = record { size = refl; before = λ k below. refl; after = λ k above. refl };
  others = λ n other. refl;
  untouched = λ k free. refl;
  stands = λ es trail. inl trail;
}

pub unappended : (next : ℕ) (e : Entry) (m : Medium) (fault : TrailFault) → IsSettled m → AppendsEntry next e m m (Err fault)
unappended next e m fault settled = record {
  settled = tt;
  stands = λ es trail. tt;
  replaced = tt;
  either = becomes_same m m (Appending next e) refl refl (appending_none next e);
  moments = record {
    size = refl;
    later = omega arith;
    each = λ c at. (c, settled.only c (m.only_now c at), appending_none next e c);
    before = λ t c le at. inl at;
    keeps = λ t c le at. at;
  };
}

-- a trail to which an entry was appended stands for one more
pub stands_more : (next : ℕ) (e : Entry) (m0 m1 : Medium) (result : Result (Unit {0}) TrailFault) → AppendsEntry next e m0 m1 result → Told m0 (λ c. StandsForTrail c next)
    → OnOk result (Told m1 (λ c. StandsForTrail c (next + 1)))
stands_more next e m0 m1 (Err fault) more start = tt
stands_more next e m0 m1 (Ok done) more start = told_from m1.content (λ c. StandsForTrail c (next + 1)) (λ c is.
    let from = more.either.told c is in
    let before : StandsForTrail from.0 next = told_at m0.content (λ c. StandsForTrail c next) from.0 from.1 start in
    let trail : Told m0 (λ c. IsTrail c before.0) = told_from m0.content (λ c. IsTrail c before.0) (λ d told. subst (λ (c : List ℕ). IsTrail c before.0) (same_Some from.0 d (sym from.1 ∙ told)) before.2) in (
      before.0 ++ e ∷ [],
      length-append before.0 (e ∷ []) ∙ ap (λ (n : ℕ). n + 1) before.1,
      told_at m1.content (λ c. IsTrail c (before.0 ++ e ∷ [])) c is (more.stands before.0 trail),
    ))

-- ---- a damaged cell that is named

pub same_fault : {T : Type 0} (a b : TrailFault) → ◌≡◌ {A = Result T TrailFault} (Err a) (Err b) → a ≡ b
same_fault a b is = cc

pub exact_by : (m : Medium) (fault : TrailFault) → (fault ≡ DiskFault → ⊥) → (fault ≡ DiskFault) ⊎ ((cell : ℕ) × (cell < 4096) × (fault ≡ Damaged cell)) → ((n : ℕ) → fault ≡ Damaged n → Told m (λ image. IsFirstDamaged image n))
    → Told m (λ image. (cell : ℕ) → IsFirstDamaged image cell → ◌≡◌ {A = Result (Unit {0}) TrailFault} (Err fault) (Err (Damaged cell)))
exact_by m fault sound (inl failed) damaged = absurd (sound failed)
exact_by m fault sound (inr named) damaged =
    told_map m (λ image. IsFirstDamaged image named.0) _ (damaged named.0 named.2)
    (λ image first cell other. ap Err (named.2 ∙ ap Damaged (first_one image named.0 cell first other)))

pub named_within : (cell : ℕ) (fault : TrailFault) → cell < 4096 → (fault ≡ DiskFault) ⊎ (fault ≡ Damaged cell) → (fault ≡ DiskFault) ⊎ ((n : ℕ) × (n < 4096) × (fault ≡ Damaged n))
named_within cell fault within (inl failed) = inl failed
named_within cell fault within (inr damaged) = inr (cell, within, damaged)
