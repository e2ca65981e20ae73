-- What a read into the front of the chunk brings.
use Rattle.std.proofs.Common.{◌≡◌, ℕ, ◌+◌, ◌-◌, ◌<◌, ◌≤◌, ◌==◌, false, List, ◌++◌, Option, None, Some, length, take, refl, sym, ap, subst, ◌∙◌, inl, inr, arith}
use Rattle.std.specs.List.{slice_range}
use Rattle.std.proofs.lemmas.Bool.{cases_lt, ne_eqb}
use Rattle.std.proofs.lemmas.Bool.Decides.{Decides-eqb}
use Rattle.std.proofs.lemmas.List.{length-take}
use Rattle.std.specs.Io.KnownBytes.{IsAtEnd, Consumes}
use Rattle.device_cells.specs.WhereTold.{WhereTold}
use Rattle.line_service.specs.Reading.{Reading, input_limit}
use Rattle.line_service.specs.Gathering.{Refills}

told_consumed : (a b : Option (List ℕ)) (bytes : List ℕ) → Consumes a b bytes → WhereTold a b (λ x y. x ≡ bytes ++ y)
told_consumed None b bytes consumes = tt
told_consumed (Some x) None bytes consumes = absurd consumes
told_consumed (Some x) (Some y) bytes consumes = consumes

-- `now` is the reading after a read that gave `count` bytes
pub refilled : (a b : Option (List ℕ)) (old : Reading) (chunk items : List ℕ) (count : ℕ) → items ≡ chunk → Consumes a b (take count chunk)
    → (count ≡ 0 → 0 < length chunk → IsAtEnd b) → 0 < length chunk → count ≤ length chunk → old.taken < input_limit
    → count ≤ input_limit - old.taken → old.ended ≡ false
    → Refills a b old (record { line = old.line; pending = slice_range items 0 count; ended = count == 0; taken = old.taken + count })
refilled a b old chunk items count same consumes last some within room left going =
    let front : count - 0 ≡ count = omega arith in
    let pending = slice_range items 0 count in
    let is : pending ≡ take count chunk = ap (λ n. take n items) front ∙ ap (take count) same in
    let size : length pending ≡ count = omega (arith, ap length is, length-take count chunk) in
    record {
      line = refl;
      bytes = told_consumed a b pending (subst (Consumes a b) (sym is) consumes);
      taken = omega (arith, size);
      some =
          elim (cases_lt 0 count) [
            | inl more ↦ inl (omega (arith, size), ne_eqb count 0 (λ none. absurd (omega (arith, none, more))) ∙ sym going)
            | inr none ↦ inr ((Decides-eqb count 0).1 (omega arith))
          ];
      at_end = λ ends. last ((Decides-eqb count 0).0 ends) some;
      bounded = record { within = omega arith; early = λ ends. omega (arith, (Decides-eqb count 0).0 ends) };
    }
