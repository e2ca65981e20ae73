-- A trail that grows from call to call.
use Rattle.std.proofs.Common.{ℕ, List, [], ◌∷◌, ◌++◌, Option, None, Some, IfSome, Result, sym, ◌∙◌, subst, inl, inr, append_assoc}
use Rattle.std.specs.Prelude.{◌⊎◌}
use Rattle.std.proofs.lemmas.List.{append-nil}
use Rattle.device_cells.specs.Medium.{Medium, Told, From, EachImage, Keeps}
use Rattle.device_cells.specs.SpareBytes.{SameSpare}
use Rattle.device_cells.proofs.Media.{told_from, told_at, becomes_told, becomes_weaker, becomes_same, becomes_then, each_weaker, image_now, goes_on, from_then}
use Rattle.device_cells.proofs.SpareLemmas.{same_spare, same_spare_then, spare_untouched}
use Rattle.audit_trail.specs.Changes.{Appending, AppendsEntry}
use Rattle.audit_trail.specs.TrailStands.{IsTrail}
use Rattle.audit_trail.specs.declared.entries.Entry.{Entry}
use Rattle.audit_trail.specs.declared.faults.TrailFault.{TrailFault}
use Rattle.audited_service.specs.Growing.{HasMore, TrailGrows}

none_more : (es : List Entry) (image : List ℕ) → IsTrail image es → HasMore es image
none_more es image stands = ([], subst (IsTrail image) (sym (append-nil es)) stands)

-- a trail that is as it was
pub grows_kept : (t0 t1 : Medium) → Keeps t0 t1 → TrailGrows t0 t1
grows_kept t0 t1 kept = record {
  told = λ es stands. told_from t1.content _ (λ c is. none_more es c (told_at t0.content (λ d. IsTrail d es) c (sym kept.content ∙ is) stands));
  moments = λ es stands. each_weaker t0 t1 _ _ kept.moments (λ c image. inl image);
  spare = becomes_same t0 t1 SameSpare kept.moments.size kept.content same_spare;
  spares = each_weaker t0 t1 _ _ kept.moments (λ c image. inl image);
}

appending_spare : (n : ℕ) (e : Entry) (old new : List ℕ) → Appending n e old new → SameSpare old new
appending_spare n e old new step = record {
  size = step.outside.size;
  spare = λ k free. step.untouched k (spare_untouched old _ k free);
}

-- an entry is appended, or that was tried
pub grows_appended : (n : ℕ) (e : Entry) (t0 t1 : Medium) (r : Result (Unit {0}) TrailFault) → AppendsEntry n e t0 t1 r → TrailGrows t0 t1
grows_appended n e t0 t1 r appends = record {
  told = λ es stands. becomes_told t0 t1 (Appending n e) (λ c. IsTrail c es) (HasMore es) appends.either stands (λ d c was step. one_more es c (step.stands es was));
  moments = λ es stands. each_weaker t0 t1 _ _ appends.moments (λ c from. inr (one_more es c (from.2.stands es (told_at t0.content (λ d. IsTrail d es) from.0 from.1 stands))));
  spare = becomes_weaker t0 t1 (Appending n e) SameSpare appends.either (appending_spare n e);
  spares = each_weaker t0 t1 _ _ appends.moments (λ c from. inr (from.0, from.1, appending_spare n e from.0 c from.2));
}
  where
    one_more : (es : List Entry) (c : List ℕ) → IsTrail c es ⊎ IsTrail c (es ++ e ∷ []) → HasMore es c
    one_more es c (inl same) = none_more es c same
    one_more es c (inr more) = (e ∷ [], more)

-- what follows from the entries that stand there now
for_more : (t : Medium) (es : List Entry) (G : Type 0) → Told t (HasMore es) → ((more : List Entry) → Told t (λ c. IsTrail c (es ++ more)) → G) → G
for_more t es G told then_ = by_content t.content told then_
  where
    by_content : (o : Option (List ℕ)) → IfSome o (HasMore es) → ((more : List Entry) → IfSome o (λ c. IsTrail c (es ++ more)) → G) → G
    by_content None told then_ = then_ [] tt
    by_content (Some c) told then_ = then_ told.0 told.1

pub grows_then : (t0 t1 t2 : Medium) → TrailGrows t0 t1 → TrailGrows t1 t2 → TrailGrows t0 t2
grows_then t0 t1 t2 one two = record {
  told = λ es stands. for_more t1 es _ (one.told es stands)
      (λ more now. told_from t2.content (HasMore es) (λ c is. behind es more c (told_at t2.content (HasMore (es ++ more)) c is (two.told (es ++ more) now))));
  moments = λ es stands. for_more t1 es _ (one.told es stands)
      (λ more now. goes_on t0 t1 t2 _ _ _ (one.moments es stands) (two.moments (es ++ more) now) (λ c has. has)
      (λ c has. or_now es more c (one.moments es stands) has));
  spare = becomes_then t0 t1 t2 SameSpare SameSpare SameSpare one.spare two.spare same_spare_then;
  spares = goes_on t0 t1 t2 _ _ _ one.spares two.spares (λ c has. has) spare_now;
}
  where
    behind : (es more : List Entry) (c : List ℕ) → HasMore (es ++ more) c → HasMore es c
    behind es more c has = (more ++ has.0, subst (IsTrail c) (append_assoc es more has.0) has.1)

    or_now : (es more : List Entry) (c : List ℕ) → EachImage t0 t1 (λ c. t0.images c ⊎ HasMore es c) → t1.images c ⊎ HasMore (es ++ more) c → t0.images c ⊎ HasMore es c
    or_now es more c first (inl image) = image_now t0 t1 (λ d. t0.images d ⊎ HasMore es d) first c image
    or_now es more c first (inr has) = inr (behind es more c has)

    spare_now : (c : List ℕ) → t1.images c ⊎ From SameSpare t1 c → t0.images c ⊎ From SameSpare t0 c
    spare_now c (inl image) = image_now t0 t1 (λ d. t0.images d ⊎ From SameSpare t0 d) one.spares c image
    spare_now c (inr from) = inr (from_then t0 t1 SameSpare SameSpare SameSpare one.spare same_spare_then c from)
