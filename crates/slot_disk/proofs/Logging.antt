-- A disk in memory meets the clauses on media: what one noted call more does.
use Rattle.std.proofs.Common.{◌≡◌, ◌≤◌, ◌⊎◌, inl, inr, ⊎_elim, ℕ, ◌+◌, List, [], ◌∷◌, ◌++◌, length, take, Some, refl, sym, ◌∙◌, ap, subst, arith, length-append}
use Rattle.std.proofs.lemmas.Bool.{cases_lt}
use Rattle.std.proofs.lemmas.List.{take-append-le, take_all}
use Rattle.std.proofs.lemmas.Option.{same_Some}
use Rattle.device_cells.specs.Ranges.{SameOutside, HoldsPiece, overwrite}
use Rattle.slot_disk.specs.declared.call.Call.{Call}
use Rattle.slot_disk.specs.declared.call.Call.TheVariants.{Written, Synced}
use Rattle.slot_disk.specs.Stages.{Stage, noting, stage, IsTorn}
use Rattle.device_cells.specs.Medium.{Medium, IsSettled, After, Becomes, EachImage}
use Rattle.slot_disk.specs.LogMedium.{LeftSince, log_medium}
use Rattle.slot_disk.specs.StageLaws.{length-stage}
use Rattle.device_cells.proofs.CellSteps.{outside_same}
use Rattle.slot_disk.proofs.Staging.{stage-push, written_torn, settled_only, synced_torn}
use Rattle.slot_disk.proofs.Overwriting.{overwrite_outside, overwrite_holds}

module _ (first : List ℕ) (calls : List Call) where
  -- ---- one call more

  module _ (call : Call) where
    longer : length (calls ++ call ∷ []) ≡ length calls + 1
    longer = length-append calls (call ∷ [])

    -- a stop after one call more is one before it, or now
    earlier_or_now : (t : ℕ) (c : List ℕ) → LeftSince first (calls ++ call ∷ []) t c → LeftSince first calls t c ⊎ IsTorn (noting (stage first calls) call) c
    earlier_or_now t c left = elim (cases_lt (length calls) left.noted) [
      | inl last ↦
          let all : take left.noted (calls ++ call ∷ []) ≡ calls ++ call ∷ [] = take_all left.noted (calls ++ call ∷ []) (omega (arith, longer)) in
          inr (subst (λ (s : Stage). IsTorn s c) (ap (stage first) all ∙ stage-push first calls call) left.torn)
      | inr within ↦ inl (record {
        noted = left.noted;
        from = left.from;
        made = within;
        torn = subst (λ (l : List Call). IsTorn (stage first l) c) (take-append-le left.noted calls (call ∷ []) within) left.torn;
      })
    ]

    still_there : (t : ℕ) (c : List ℕ) → LeftSince first calls t c → LeftSince first (calls ++ call ∷ []) t c
    still_there t c left = record {
      noted = left.noted;
      from = left.from;
      made = omega (arith, longer, left.made);
      torn = subst (λ (l : List Call). IsTorn (stage first l) c) (sym (take-append-le left.noted calls (call ∷ []) left.made)) left.torn;
    }

    push_moments : (P : List ℕ → Type 0) → ((c : List ℕ) → IsTorn (stage first calls) c → P c) → ((c : List ℕ) → IsTorn (noting (stage first calls) call) c → P c) → EachImage (log_medium first calls) (log_medium first (calls ++ call ∷ [])) P
    push_moments P old new = record {
      size = refl;
      later = omega (arith, longer);
      each = λ c left. ⊎_elim (λ was. old c ((log_medium first calls).only_now c was)) (λ now. new c now) (earlier_or_now (length calls) c left);
      before = λ t c le left. ⊎_elim (λ was. inl was) (λ now. inr (new c now)) (earlier_or_now t c left);
      keeps = λ t c le left. still_there t c left;
    }

  -- ---- a write

  module _ (at : ℕ) (bytes : List ℕ) (within : at + length bytes ≤ length first) where
    pub written_moments : EachImage (log_medium first calls) (log_medium first (calls ++ Written at bytes ∷ [])) (After (SameOutside at (length bytes)) (IsTorn (stage first calls)))
    written_moments = push_moments (Written at bytes) (After (SameOutside at (length bytes)) (IsTorn (stage first calls)))
        (λ c torn. (c, torn, outside_same at (length bytes) c))
        (λ c torn. written_torn first calls at bytes c within torn)

    written_content : (c : List ℕ) → Some (stage first (calls ++ Written at bytes ∷ [])).content ≡ Some c → overwrite (stage first calls).content at bytes ≡ c
    written_content c is = ap (λ (s : Stage). s.content) (sym (stage-push first calls (Written at bytes))) ∙ same_Some (stage first (calls ++ Written at bytes ∷ [])).content c is

    pub written_holds : Becomes (HoldsPiece at bytes) (log_medium first calls) (log_medium first (calls ++ Written at bytes ∷ []))
    written_holds = record {
      size = refl;
      told = λ c is. ((stage first calls).content, refl, subst (HoldsPiece at bytes (stage first calls).content) (written_content c is) (overwrite_holds (stage first calls).content at bytes (omega (arith, length-stage first calls))));
      still = λ some. refl;
    }

    pub written_outside : Becomes (SameOutside at (length bytes)) (log_medium first calls) (log_medium first (calls ++ Written at bytes ∷ []))
    written_outside = record {
      size = refl;
      told = λ c is. ((stage first calls).content, refl, subst (SameOutside at (length bytes) (stage first calls).content) (written_content c is) (overwrite_outside (stage first calls).content at bytes));
      still = λ some. refl;
    }

  -- ---- a sync

  pub synced_moments : EachImage (log_medium first calls) (log_medium first (calls ++ Synced ∷ [])) (IsTorn (stage first calls))
  synced_moments = push_moments Synced (IsTorn (stage first calls)) (λ c torn. torn) (λ c torn. synced_torn first calls c torn)

  pub synced_content : Some (stage first (calls ++ Synced ∷ [])).content ≡ Some (stage first calls).content
  synced_content = ap (λ (s : Stage). Some s.content) (stage-push first calls Synced)

  pub synced_settled : IsSettled (log_medium first (calls ++ Synced ∷ []))
  synced_settled = record {
    only = λ c torn.
        let now : IsTorn (noting (stage first calls) Synced) c = subst (λ (s : Stage). IsTorn s c) (stage-push first calls Synced) torn in
        synced_content ∙ ap (λ (l : List ℕ). Some l) (sym (settled_only (stage first calls).content c now));
  }

-- the same medium, where its image and its calls are known by other names
pub log_moved : (P : Medium → Type 0) (first first' : List ℕ) (calls calls' : List Call) → first' ≡ first → calls' ≡ calls → P (log_medium first calls) → P (log_medium first' calls')
log_moved P first first' calls calls' same_first same_calls fact =
    subst (λ (l : List Call). P (log_medium first' l)) (sym same_calls) (subst (λ (l : List ℕ). P (log_medium l calls)) (sym same_first) fact)
