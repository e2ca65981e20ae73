-- A reply line as it is written, piece after piece.
use Rattle.std.proofs.Common.{◌≡◌, List, [], ◌∷◌, ◌++◌, refl, sym, ap, ◌∙◌, append_assoc}
use Rattle.line_service.specs.Lines.{EndsInNewline}
use Rattle.line_service.specs.Replies.{Done, Field, Refused, Reply, field_text, fields_text, refusal, spelled, written}

-- the fields of two lists, one after the other
pub fields_text-append : (fs gs : List Field) → fields_text (fs ++ gs) ≡ fields_text fs ++ fields_text gs
fields_text-append [] gs = refl
fields_text-append (f ∷ fs) gs = ap (λ bytes. field_text f ++ bytes) (fields_text-append fs gs) ∙ sym (append_assoc (field_text f) (fields_text fs) (fields_text gs))

-- a reply line ends with its newline
pub spelled_line : (reply : Reply) → EndsInNewline (spelled reply)
spelled_line (Refused rule operand) = (refusal rule operand, refl)
spelled_line (Done fields) = (written fields, refl)
