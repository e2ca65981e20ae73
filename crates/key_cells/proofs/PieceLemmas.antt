-- A piece put into a list from a place on, element by element.
use Rattle.std.proofs.Common.{◌≡◌, ℕ, ◌+◌, ◌<◌, List, [], ◌∷◌, ◌++◌, length, get_or, take, drop, set, sym, ap, ◌∙◌, arith}
use Rattle.std.proofs.lemmas.List.{append_assoc, drop_more, length-append, length-take, set_at, take_more}

pub put-more : (old piece : List ℕ) (at byte : ℕ) → at + byte < length old → byte < length piece
    → set (take at old ++ take byte piece ++ drop (at + byte) old) (at + byte) (get_or piece byte 0) ≡ take at old ++ take (byte + 1) piece ++ drop (at + (byte + 1)) old
put-more old piece at byte within inside =
    let front : List ℕ = take at old ++ take byte piece in
    let long : length front ≡ at + byte = omega (arith, length-append (take at old) (take byte piece), length-take at old, length-take byte piece) in
    let next : at + byte + 1 ≡ at + (byte + 1) = omega arith in
    ap (λ rest. set (front ++ rest) (at + byte) (get_or piece byte 0)) (drop_more old (at + byte) 0 within)
    ∙ set_at front (get_or old (at + byte) 0) (drop (at + byte + 1) old) (get_or piece byte 0) (at + byte) long
    ∙ ap (λ n. front ++ get_or piece byte 0 ∷ drop n old) next
    ∙ sym (append_assoc front (get_or piece byte 0 ∷ []) (drop (at + (byte + 1)) old))
    ∙ ap (λ more. more ++ drop (at + (byte + 1)) old)
    (append_assoc (take at old) (take byte piece) (get_or piece byte 0 ∷ []) ∙ ap (λ more. take at old ++ more) (sym (take_more piece byte 0 inside)))
