-- The bytes of a trail at rest, from append to append.
use Rattle.std.proofs.Common.{◌<◌, ◌≤◌, ◌-◌, ◌*◌, ◌%◌, inl, inr, ⊎_elim, ℕ, List, [], ◌∷◌, ◌++◌, length, get_or, Ok, refl, sym, subst, ◌∙◌, append_assoc, arith}
use Rattle.std.specs.Prelude.{◌⊎◌}
use Rattle.std.proofs.lemmas.Bool.{cases_lt}
use Rattle.std.proofs.lemmas.List.{append-nil, length-append, get_or_append_left}
use Rattle.device_cells.specs.Cells.{body, other_body, IsReplaced}
use Rattle.device_cells.specs.Medium.{Medium, Becomes, Keeps}
use Rattle.device_cells.specs.SpareBytes.{SameCell, Turned}
use Rattle.device_cells.proofs.Media.{becomes_weaker, becomes_both, becomes_same, becomes_then}
use Rattle.device_cells.proofs.SpareLemmas.{same_spare, same_spare_then, replaced_turned}
use Rattle.audit_trail.specs.Changes.{Appending, AppendsEntry}
use Rattle.audit_trail.specs.Entries.{entry_at, no_entry}
use Rattle.audit_trail.specs.RecordBody.{record_body, Spells}
use Rattle.audit_trail.specs.TrailStands.{IsTrail}
use Rattle.audit_trail.specs.declared.entries.Entry.{Entry}
use Rattle.audit_trail.proofs.TrailLaws.{newest_of}
use Rattle.line_service.proofs.SpareLaws.{same_selector, same_other}
use Rattle.audited_service.specs.Growing.{IsRecordOf, HasGrown, Grown}

-- ---- bodies

-- a selected body of a trail is blank or the record of an entry
of_trail : (image : List ℕ) (es : List Entry) → IsTrail image es → (n : ℕ) → n < 4096 → IsRecordOf es n (body image n)
of_trail image es trail n low =
    ⊎_elim
    (λ (reached : n < length es).
    let newest = newest_of (length es - 1) n (omega arith) low in
    let m : ℕ = length es - 1 - (length es - 1 - n) % 4096 in
    let here = trail.held m (omega (arith, newest.up_to)) (omega (arith, newest.newest)) in
    inr (m, omega (arith, newest.up_to), newest.belongs, subst (λ (k : ℕ). Spells (body image k) m (entry_at es m)) newest.belongs here))
    (λ (unreached : length es ≤ n). inl (trail.blank n unreached low))
    (cases_lt n (length es))

-- and it is one of more entries
record_more : (es fs : List Entry) (n : ℕ) (bytes : List ℕ) → IsRecordOf es n bytes → IsRecordOf (es ++ fs) n bytes
record_more es fs n bytes (inl blank) = inl blank
record_more es fs n bytes (inr r) =
    inr (r.0, omega (arith, r.1, length-append es fs), r.2, subst (λ (e : Entry). Spells bytes r.0 e) (sym (get_or_append_left es fs no_entry r.0 r.1)) r.3)

-- ---- images

same_all : (c : List ℕ) → Grown c c
same_all c es trail = record {
  more = [];
  stands = subst (IsTrail c) (sym (append-nil es)) trail;
  same = same_spare c;
  each = λ n low. inl (λ k within. refl);
}

-- the cell is as it was, or its other body is a record of these entries
abbrev IsCell : List Entry → ℕ → List ℕ → List ℕ → Type 0
IsCell es n old new = SameCell n old new ⊎ ((get_or new (1536 * n) 0 < 2) × IsRecordOf es n (other_body new n))

-- an entry was appended
one_grown : (next : ℕ) (e : Entry) (b c : List ℕ) → Appending next e b c → IsReplaced (next % 4096) (record_body next e) b c → Grown b c
one_grown next e b c step replaced es trail = by_stands (step.stands es trail)
  where
    turned : Turned 4096 b c
    turned = replaced_turned (next % 4096) (record_body next e) b c replaced 4096

    each_cell : (more : List Entry) (n : ℕ) → n < 4096 → IsCell (es ++ more) n b c
    each_cell more n low = ⊎_elim
        (λ still. inl still)
        (λ has. inr (has.0, subst (λ (bytes : List ℕ). IsRecordOf (es ++ more) n bytes) (sym has.1) (record_more es more n (body b n) (of_trail b es trail n low))))
        (turned.cells n low)

    with_more : (more : List Entry) → IsTrail c (es ++ more) → HasGrown es b c
    with_more more stands = record { more = more; stands = stands; same = turned.same; each = each_cell more }

    by_stands : IsTrail c es ⊎ IsTrail c (es ++ e ∷ []) → HasGrown es b c
    by_stands (inl as_before) = with_more [] (subst (IsTrail c) (sym (append-nil es)) as_before)
    by_stands (inr one_more) = with_more (e ∷ []) one_more

both_grown : (es : List Entry) (b c d : List ℕ) (one : HasGrown es b c) → HasGrown (es ++ one.more) c d → HasGrown es b d
both_grown es b c d one two = record {
  more = one.more ++ two.more;
  stands = subst (IsTrail d) (append_assoc es one.more two.more) two.stands;
  same = same_spare_then b c d one.same two.same;
  each = λ n low. subst (λ (fs : List Entry). IsCell fs n b d) (append_assoc es one.more two.more) (by_cell n (one.each n low) (two.each n low));
}
  where
    by_cell : (n : ℕ) → IsCell (es ++ one.more) n b c → IsCell ((es ++ one.more) ++ two.more) n c d → IsCell ((es ++ one.more) ++ two.more) n b d
    by_cell n (inl before) (inl still) = inl (λ k within. still k within ∙ before k within)
    by_cell n (inr was) (inl still) = inr (
      subst (λ (x : ℕ). x < 2) (sym (same_selector n c d still)) was.0,
      record_more (es ++ one.more) two.more n (other_body d n)
          (subst (λ (bytes : List ℕ). IsRecordOf (es ++ one.more) n bytes) (sym (same_other n c d still two.same.size)) was.1),
    )
    by_cell n before (inr has) = inr has

grown_then : (b c d : List ℕ) → Grown b c → Grown c d → Grown b d
grown_then b c d first second es trail = let one = first es trail in both_grown es b c d one (second (es ++ one.more) one.stands)

-- ---- media

-- a trail that is as it was
pub grown_kept : (t0 t1 : Medium) → Keeps t0 t1 → Becomes Grown t0 t1
grown_kept t0 t1 kept = becomes_same t0 t1 Grown kept.moments.size kept.content same_all

pub grown_appended : (n : ℕ) (e : Entry) (t0 t1 : Medium) (x : Unit {0}) → AppendsEntry n e t0 t1 (Ok x) → Becomes Grown t0 t1
grown_appended n e t0 t1 x appends =
    becomes_weaker t0 t1 (λ b c. Appending n e b c × IsReplaced (n % 4096) (record_body n e) b c) Grown
    (becomes_both t0 t1 (Appending n e) (IsReplaced (n % 4096) (record_body n e)) appends.either appends.replaced)
    (λ b c both. one_grown n e b c both.0 both.1)

pub grown_on : (t0 t1 t2 : Medium) → Becomes Grown t0 t1 → Becomes Grown t1 t2 → Becomes Grown t0 t2
grown_on t0 t1 t2 one two = becomes_then t0 t1 t2 Grown Grown Grown one two grown_then
