-- The part before the first newline moves, or all of the pending bytes where there is none.
use Rattle.std.proofs.Common.{◌++◌, ◌∷◌, take, drop, refl, sym, ap, ◌∙◌, arith}
use Rattle.std.proofs.lemmas.List.{take_all, drop_all}
use Rattle.line_service.specs.Lines.{newline}
use Rattle.line_service.specs.Reading.{Reading}
use Rattle.line_service.specs.Gathering.{line_room}
use Rattle.line_service.proofs.FirstNewline.{clean_at_none, clean_before, parted_at}
use Rattle.line_service.proofs.PartLemmas.{same-reading}
use Rattle.line_service.proofs.lines.LineBuffer.move_part.Goals as goal

pub returns-in-Some : goal.returns-in-Some
returns-in-Some c =
    let old = c.args.self.now in
    let at = c.in-Some.at in
    let found = rw c.in-Some.is at c.find_newline.ensures in
    let skip : Reading → Reading = λ r. record r { pending = drop 1 r.pending } in
    let moved = c.skip_newline.ensures ∙ ap skip c.keep.ensures in
    let left = ap (λ r. r.pending) moved in (
      take at old.pending,
      clean_before old.pending at found,
      parted_at old.pending at found ∙ ap (λ rest. take at old.pending ++ newline ∷ rest) (sym left),
      moved ∙ same-reading _ _ _ _ _ _ refl (sym left),
    )

pub returns-in-None : goal.returns-in-None
returns-in-None c =
    let old = c.args.self.now in
    let counted = c.pending_len-count.ensures in (
      clean_at_none old.pending (rw c.in-None.is at c.find_newline.ensures),
      c.keep-in-None.ensures
          ∙ same-reading _ _ _ _ _ _
          (ap (λ part. take line_room (old.line ++ part)) (take_all c.pending_len-count.result old.pending (omega arith)))
          (drop_all c.pending_len-count.result old.pending (omega arith)),
    )
