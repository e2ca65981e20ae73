-- Where the first newline of some bytes stands, as a search answers it.
use Rattle.std.proofs.Common.{◌≡◌, ℕ, ◌+◌, ◌<◌, List, ◌∷◌, ◌++◌, Some, None, length, take, drop, get_or, sym, ap, ◌∙◌, arith}
use Rattle.std.proofs.lemmas.Bool.{eq-eqb, eqb-true}
use Rattle.std.proofs.lemmas.List.{take-append-drop, get_or-take, get_or_default, drop-drop, drop_more, length-take}
use Rattle.memchr.specs.Find.{IsFirstByte, is_byte}
use Rattle.line_service.specs.Lines.{newline, NoNewline}

-- where there is none, no byte is one
pub clean_at_none : (bs : List ℕ) → IsFirstByte (is_byte 10) bs None → NoNewline bs
clean_at_none bs nowhere k d within is = nowhere k (omega arith) within (eq-eqb (get_or bs k 0) 10 (get_or_default bs k 0 d within ∙ is))

module _ (bs : List ℕ) (at : ℕ) (found : IsFirstByte (is_byte 10) bs (Some at)) where
  pub first_within : at < length bs
  first_within = found.0.high

  -- no byte before it is one
  pub clean_before : NoNewline (take at bs)
  clean_before k d within is =
      let below : k < at = omega (arith, length-take at bs, within) in
      let inside : k < length bs = omega (arith, first_within) in
      found.0.before k (omega arith) below
      (eq-eqb (get_or bs k 0) 10 (get_or_default bs k 0 d inside ∙ sym (get_or-take at bs k d below) ∙ is))

  -- it parts the bytes
  pub parted_at : bs ≡ take at bs ++ newline ∷ drop 1 (drop at bs)
  parted_at =
      let head : drop at bs ≡ newline ∷ drop 1 (drop at bs) =
      drop_more bs at 0 first_within
      ∙ ap (λ b. b ∷ drop (at + 1) bs) (eqb-true (get_or bs at 0) 10 found.1)
      ∙ ap (λ rest. newline ∷ rest) (sym (drop-drop 1 at bs)) in
      sym (take-append-drop at bs) ∙ ap (λ rest. take at bs ++ rest) head
