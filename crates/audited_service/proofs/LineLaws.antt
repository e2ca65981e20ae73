-- The lines of records, one after another.
use Rattle.std.proofs.Common.{◌≡◌, ◌≤◌, ◌<◌, ◌+◌, ◌-◌, ℕ, zero, suc, List, [], ◌++◌, length, refl, sym, ap, ◌∙◌, append_assoc, arith}
use Rattle.std.proofs.lemmas.List.{append-nil}
use Rattle.std.specs.List.{flat_map, range_with_len}
use Rattle.audit_trail.specs.Entries.{entry_at}
use Rattle.audit_trail.specs.declared.entries.Entry.{Entry}
use Rattle.audited_service.specs.Lines.{record_line, held_from, lines_below, listing}

abbrev pieces : (ℕ → List ℕ) → ℕ → ℕ → List ℕ
pieces f a n = flat_map f (range_with_len a n)

same_pieces : (f : ℕ → List ℕ) (a b n m : ℕ) → a ≡ b → n ≡ m → pieces f a n ≡ pieces f b m
same_pieces f a b n m from long = ap (λ k. pieces f k n) from ∙ ap (pieces f b) long

-- the pieces of some numbers, and then those of the numbers behind them
pub pieces_split : (f : ℕ → List ℕ) (a n k m b : ℕ) → m ≡ n + k → b ≡ a + n → pieces f a m ≡ pieces f a n ++ pieces f b k
pieces_split f a zero k m b long from = same_pieces f a b m k (omega (arith, from)) (omega (arith, long))
pieces_split f a (suc n) k m b long from =
    same_pieces f a a m (suc (n + k)) refl (omega (arith, long))
    ∙ ap (λ bytes. f a ++ bytes) (pieces_split f (a + 1) n k (n + k) b refl (omega (arith, from)))
    ∙ sym (append_assoc (f a) (pieces f (a + 1) n) (pieces f b k))

abbrev line_in : List Entry → ℕ → List ℕ
line_in es number = record_line number (entry_at es number)

-- no line before the first number that is held
pub lines_below_first : (es : List Entry) (next : ℕ) → next ≤ held_from (length es) → lines_below es next ≡ []
lines_below_first es next low =
    let first : ℕ = held_from (length es) in
    same_pieces (line_in es) first first (next - first) 0 refl (omega (arith, low))

module _ (es : List Entry) (number : ℕ) (from : held_from (length es) ≤ number) where
  abbrev first : ℕ
  first = held_from (length es)

  -- the line of a number behind those before it
  pub lines_below_more : lines_below es (number + 1) ≡ lines_below es number ++ line_in es number
  lines_below_more =
      pieces_split (line_in es) first (number - first) 1 (number + 1 - first) number (omega (arith, from)) (omega (arith, from))
      ∙ ap (λ bytes. lines_below es number ++ bytes) (append-nil (line_in es number))

  -- and those of all numbers behind it
  pub listing_rest : number < length es → (rest : List ℕ) × (listing es ≡ (lines_below es number ++ line_in es number) ++ rest)
  listing_rest below = (
    pieces (line_in es) (number + 1) (length es - (number + 1)),
    pieces_split (line_in es) first (number + 1 - first) (length es - (number + 1)) (length es - first) (number + 1) (omega (arith, from, below)) (omega (arith, from))
        ∙ ap (λ bytes. bytes ++ pieces (line_in es) (number + 1) (length es - (number + 1))) lines_below_more,
  )
