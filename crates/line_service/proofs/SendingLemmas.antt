-- A piece that is sent in parts.
use Rattle.std.proofs.Common.{◌≡◌, ℕ, List, [], ◌++◌, ◌-◌, length, take, drop, Option, None, Some, refl, sym, subst, arith, ap, append-nil, ◌∙◌, append_assoc}
use Rattle.std.specs.Io.KnownBytes.{Appends}
use Rattle.std.proofs.lemmas.List.{take-append-drop, take_all, length-drop}
use Rattle.device_cells.specs.WhereTold.{WhereTold}
use Rattle.device_cells.proofs.WhereToldLemmas.{told_then, told_appended}

-- so far the sink got all of the piece but the rest
pub record GotAllBut (before now piece rest : List ℕ) : Type 0 where
  pub sent : List ℕ
  pub held : now ≡ before ++ sent
  pub parts : piece ≡ sent ++ rest

pub one_more : (a b c : Option (List ℕ)) (piece rest : List ℕ) (count : ℕ)
    → WhereTold a b (λ before now. GotAllBut before now piece rest) → Appends b c (take count rest)
    → WhereTold a c (λ before now. GotAllBut before now piece (drop count rest))
one_more a b c piece rest count so_far appends =
    told_then a b c (λ before now. GotAllBut before now piece rest) (λ before now. now ≡ before ++ take count rest)
    (λ before now. GotAllBut before now piece (drop count rest))
    (λ x y z first second. record {
      sent = first.sent ++ take count rest;
      held = second ∙ (ap (λ xs. xs ++ take count rest) first.held ∙ append_assoc x first.sent (take count rest));
      parts = first.parts ∙ (ap (λ xs. first.sent ++ xs) (sym (take-append-drop count rest)) ∙ sym (append_assoc first.sent (take count rest) (drop count rest)));
    })
    so_far (told_appended b c (take count rest) appends)

pub none_sent : (a : Option (List ℕ)) (piece : List ℕ) → WhereTold a a (λ before now. GotAllBut before now piece piece)
none_sent None piece = tt
none_sent (Some x) piece = record { sent = []; held = sym (append-nil x); parts = refl }

-- the rest as the slice behind what was taken
pub more_sent : (a b c : Option (List ℕ)) (piece rest : List ℕ) (count : ℕ)
    → WhereTold a b (λ before now. GotAllBut before now piece rest) → Appends b c (take count rest)
    → WhereTold a c (λ before now. GotAllBut before now piece (take (length rest - count) (drop count rest)))
more_sent a b c piece rest count so_far appends =
    subst (λ (r : List ℕ). WhereTold a c (λ before now. GotAllBut before now piece r)) (sym (take_all (length rest - count) (drop count rest) (omega (arith, length-drop count rest))))
    (one_more a b c piece rest count so_far appends)
