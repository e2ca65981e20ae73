-- What a read from the middle of a list gives.
use Rattle.std.proofs.Common.{◌≡◌, ◌≤◌, ◌<◌, ◌+◌, ◌-◌, ℕ, List, [], ◌++◌, take, drop, length, min, sym, ◌∙◌, ap, arith, length-append, length-drop, take-append-drop}
use Rattle.std.proofs.lemmas.List.{take_at, take_all, drop-drop, drop_all, length-take}

-- what was given and what is still to come are what was to come
pub given_front : (bytes out chunk : List ℕ) (at count : ℕ) → count ≤ length bytes - at → chunk ≡ take count (drop at bytes) → drop at bytes ≡ take count (chunk ++ drop count out) ++ drop (at + count) bytes
given_front bytes out chunk at count enough is =
    let long : length chunk ≡ count = ap length is ∙ length-take count (drop at bytes) ∙ omega (arith, length-drop at bytes) in
    let front : take count (chunk ++ drop count out) ≡ take count (drop at bytes) = take_at chunk (drop count out) count long ∙ is in
    sym (take-append-drop count (drop at bytes)) ∙ ap (λ (l : List ℕ). l ++ drop count (drop at bytes)) (sym front)
    ∙ ap (λ (l : List ℕ). take count (chunk ++ drop count out) ++ l) (drop-drop count at bytes)

-- a read of a piece gives what it can, and nothing only at the end
pub gives : (left bytes items chunk out : List ℕ) (at count asked piece : ℕ) → drop at bytes ≡ left → items ≡ bytes → at ≤ length bytes → 0 < piece
    → asked ≡ min (length out) piece → count ≡ min asked (length (take (length items - at) (drop at items)))
    → chunk ≡ take count (take (length items - at) (drop at items))
    → (left ≡ take count (chunk ++ drop count out) ++ drop (at + count) bytes) × (count ≡ 0 → 0 < length (chunk ++ drop count out) → drop (at + count) bytes ≡ [])
gives left bytes items chunk out at count asked piece left_is items_are within some asked_is count_is chunk_is =
    let rest_is : take (length items - at) (drop at items) ≡ drop at bytes = take_all (length items - at) (drop at items) (omega (arith, length-drop at items)) ∙ ap (drop at) items_are in
    let counted : count ≡ min asked (length bytes - at) = count_is ∙ ap (λ (l : List ℕ). min asked (length l)) rest_is ∙ ap (min asked) (length-drop at bytes) in
    let taken : chunk ≡ take count (drop at bytes) = chunk_is ∙ ap (take count) rest_is in
    let short : length chunk ≡ count = ap length taken ∙ length-take count (drop at bytes) ∙ omega (arith, length-drop at bytes) in (
      sym left_is ∙ given_front bytes out chunk at count (omega arith) taken,
      λ none room. drop_all (at + count) bytes (omega (arith, length-append chunk (drop count out), length-drop count out)),
    )
