-- What a device gets of pieces that are sent one behind the other.
use Rattle.std.proofs.Common.{◌≡◌, ℕ, List, [], ◌∷◌, ◌++◌, Option, Result, Ok, Err, refl, sym, ap, ◌∙◌, append_assoc}
use Rattle.std.specs.Prelude.{OnOk, OnErr}
use Rattle.std.proofs.lemmas.List.{append-nil}
use Rattle.device_cells.specs.WhereTold.{WhereTold}
use Rattle.device_cells.proofs.WhereToldLemmas.{told_weaker, told_then, told_same}
use Rattle.line_service.specs.Sending.{GotPart}
use Rattle.line_service.specs.Lines.{newline}
use Rattle.store_unload.specs.Moves.{with_newlines}
use Rattle.store_unload.specs.Telling.{Gets, GotSome}

abbrev ended : List ℕ → List ℕ
ended line = line ++ newline ∷ []

-- two lines are two pieces
two_lines : (first second : List ℕ) → with_newlines (first ∷ second ∷ []) ≡ ended first ++ ended second
two_lines first second = ap (λ bytes. ended first ++ bytes) (append-nil (ended second))

module _ (first second p : List ℕ) (p_is : p ≡ ended first) (a b : Option (List ℕ)) where
  -- of the first line a part was sent
  pub first_part : WhereTold a b (λ x y. GotPart x y p) → WhereTold a b (λ x y. GotSome x y (with_newlines (first ∷ second ∷ [])))
  first_part told =
      told_weaker a b (λ x y. GotPart x y p) (λ x y. GotSome x y (with_newlines (first ∷ second ∷ [])))
      (λ x y got. record {
        sent = got.sent;
        missing = got.missing ++ ended second;
        held = got.held;
        parts = two_lines first second ∙ ap (λ bytes. bytes ++ ended second) (sym p_is ∙ got.parts) ∙ append_assoc got.sent got.missing (ended second);
      })
      told

  module _ (c : Option (List ℕ)) (q : List ℕ) (q_is : q ≡ ended second) (before : WhereTold a b (λ x y. y ≡ x ++ p)) where
    both_sent : WhereTold b c (λ x y. y ≡ x ++ q) → WhereTold a c (λ x y. y ≡ x ++ with_newlines (first ∷ second ∷ []))
    both_sent told =
        told_then a b c (λ x y. y ≡ x ++ p) (λ x y. y ≡ x ++ q) (λ x y. y ≡ x ++ with_newlines (first ∷ second ∷ []))
        (λ x y z one two.
        two ∙ ap (λ bytes. bytes ++ q) one ∙ append_assoc x p q ∙ ap (λ bytes. x ++ (p ++ bytes)) q_is ∙ ap (λ bytes. x ++ (bytes ++ ended second)) p_is
        ∙ ap (λ bytes. x ++ bytes) (sym (two_lines first second)))
        before told

    -- the first line was sent, and a part of the second
    second_part : WhereTold b c (λ x y. GotPart x y q) → WhereTold a c (λ x y. GotSome x y (with_newlines (first ∷ second ∷ [])))
    second_part told =
        told_then a b c (λ x y. y ≡ x ++ p) (λ x y. GotPart x y q) (λ x y. GotSome x y (with_newlines (first ∷ second ∷ [])))
        (λ x y z one two. record {
          sent = p ++ two.sent;
          missing = two.missing;
          held = two.held ∙ ap (λ bytes. bytes ++ two.sent) one ∙ append_assoc x p two.sent;
          parts =
              two_lines first second ∙ ap (λ bytes. ended first ++ bytes) (sym q_is ∙ two.parts) ∙ ap (λ bytes. bytes ++ (two.sent ++ two.missing)) (sym p_is)
              ∙ sym (append_assoc p two.sent two.missing);
        })
        before told

    pub both_lines : {E : Type 0} (result : Result (Unit {0}) E) → OnOk result (WhereTold b c (λ x y. y ≡ x ++ q)) → OnErr result (WhereTold b c (λ x y. GotPart x y q))
        → Gets (with_newlines (first ∷ second ∷ [])) result a c
    both_lines (Ok done) all part = record { all = both_sent all; part = tt }
    both_lines (Err failed) all part = record { all = tt; part = second_part part }

-- nothing was sent
pub got_nothing : (piece : List ℕ) (a : Option (List ℕ)) → WhereTold a a (λ x y. GotSome x y piece)
got_nothing piece a = told_same a (λ x y. GotSome x y piece) (λ x. record { sent = []; missing = piece; held = sym (append-nil x); parts = refl })

-- nothing is got of nothing, however the call ended
pub gets_none : {E : Type 0} (result : Result (Unit {0}) E) (a : Option (List ℕ)) → Gets [] result a a
gets_none (Ok done) a = record { all = told_same a (λ x y. y ≡ x ++ []) (λ x. sym (append-nil x)); part = tt }
gets_none (Err failed) a = record { all = tt; part = got_nothing [] a }
