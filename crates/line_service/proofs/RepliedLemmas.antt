-- A reply for each line, whatever the disks tell.
use Rattle.std.proofs.Common.{◌≡◌, ◌+◌, ℕ, List, [], ◌∷◌, ◌++◌, length, Option, Result, Ok, Err, refl, ap, sym, subst, ◌∙◌, inl, inr, append_assoc}
use Rattle.std.specs.List.{concat}
use Rattle.std.proofs.lemmas.List.{append-nil, length-append}
use Rattle.std.proofs.lemmas.List.Elements.{All-nil, All-push}
use Rattle.std.proofs.lemmas.List.Folds.{concat-append}
use Rattle.device_cells.specs.WhereTold.{WhereTold}
use Rattle.device_cells.proofs.WhereToldLemmas.{told_same, told_then, told_weaker}
use Rattle.line_service.specs.Devices.{Span, Outside}
use Rattle.line_service.specs.Lines.{EndsInNewline, lines}
use Rattle.line_service.specs.Reading.{Reading, Takes, blank}
use Rattle.line_service.specs.Running.{EachReplied, LineTaken}
use Rattle.line_service.specs.Sending.{GotReplies, GotReply}
use Rattle.line_service.specs.declared.lines.Taken.{Taken}
use Rattle.line_service.specs.declared.lines.Taken.TheVariants.{Line, TooLong, End}
use Rattle.line_service.specs.Stops.{IsUnanswered}
use Rattle.line_service.specs.declared.serving.Served.{Served}
use Rattle.line_service.specs.declared.serving.Served.TheVariants.{Replied, Ended}
use Rattle.line_service.specs.declared.stops.Stop.{Stop}
use Rattle.line_service.proofs.CutLines.{lines-nil}
use Rattle.line_service.proofs.TakenLemmas.{answered_replied}

-- ---- what the sink got

pub got_none : (x : List ℕ) → GotReplies 0 x x
got_none x = record { replies = []; as_many = refl; end = All-nil EndsInNewline; held = sym (append-nil x) }

pub got_more : (first : List (List ℕ)) (line x y z : List ℕ) → GotReplies (length first) x y → GotReply y z → GotReplies (length (first ++ line ∷ [])) x z
got_more first line x y z got more = record {
  replies = got.replies ++ more.0 ∷ [];
  as_many = length-append got.replies (more.0 ∷ []) ∙ (ap (λ n. n + 1) got.as_many ∙ sym (length-append first (line ∷ [])));
  end = All-push EndsInNewline got.replies more.0 got.end more.1;
  held = more.2 ∙ (ap (λ bytes. bytes ++ more.0) got.held ∙ (append_assoc x (concat got.replies) more.0
      ∙ ap (λ bytes. x ++ bytes) (ap (λ bytes. concat got.replies ++ bytes) (sym (append-nil more.0)) ∙ sym (concat-append got.replies (more.0 ∷ [])))));
}

-- a piece that was sent is the reply
pub got_reply : (p q : Option (List ℕ)) (piece reply : List ℕ) → piece ≡ reply → EndsInNewline reply → WhereTold p q (λ x y. y ≡ x ++ piece) → WhereTold p q GotReply
got_reply p q piece reply is end sent = told_weaker p q _ _ (λ x y all. (reply, end, all ∙ ap (λ bytes. x ++ bytes) is)) sent

-- ---- the lines

-- each line since the start has its reply, up to the bytes ahead
pub record HasReplied (input ahead : List ℕ) (before now : Option (List ℕ)) : Type 0 where
  pub first : List (List ℕ)
  pub lines_are : lines input ≡ first ++ lines ahead
  pub held : WhereTold before now (GotReplies (length first))

pub replied_none : (reading : Reading) (i p : Option (List ℕ)) → reading ≡ blank → WhereTold i i (λ x r. HasReplied x (reading.pending ++ r) p p)
replied_none reading i p fresh = subst (λ (r : Reading). WhereTold i i (λ x y. HasReplied x (r.pending ++ y) p p)) (sym fresh)
    (told_same i _ (λ x. record { first = []; lines_are = refl; held = told_same p _ got_none }))

taken_line : (t : Taken) (ahead rest : List ℕ) (now : Reading) → (t ≡ End → ⊥) → Takes t ahead now rest → (line : List ℕ) × (lines ahead ≡ line ∷ lines rest)
taken_line Line ahead rest now some takes = (now.line, takes.0.first)
taken_line TooLong ahead rest now some takes = (takes.0, takes.1.first)
taken_line End ahead rest now some takes = absurd (some refl)

was_answered : (r : Result Served Stop) → r ≡ Ok Replied → IsUnanswered r → ⊥
was_answered r replied none = answered_replied (subst IsUnanswered replied none)

module _ (start : Outside) (o : Span Outside) (old new : Reading) (result : Result Served Stop) (taken : LineTaken result o old new)
    (before : WhereTold start.input o.old.input (λ i r. HasReplied i (old.pending ++ r) start.output o.old.output)) where
  -- one line more
  pub replied_more : result ≡ Ok Replied → WhereTold o.old.output o.new.output GotReply
      → WhereTold start.input o.new.input (λ i r. HasReplied i (new.pending ++ r) start.output o.new.output)
  replied_more replied got =
      let shown = taken.shown (was_answered result replied) in
      told_then start.input o.old.input o.new.input _ _ _ (λ x y z has takes. joined x y z has (taken_line shown.taken (old.pending ++ y) (new.pending ++ z) new shown.some takes)) before shown.takes
    where
      joined : (x y z : List ℕ) → HasReplied x (old.pending ++ y) start.output o.old.output
          → (line : List ℕ) × (lines (old.pending ++ y) ≡ line ∷ lines (new.pending ++ z)) → HasReplied x (new.pending ++ z) start.output o.new.output
      joined x y z has line = record {
        first = has.first ++ line.0 ∷ [];
        lines_are = has.lines_are ∙ (ap (λ ls. has.first ++ ls) line.1 ∙ sym (append_assoc has.first (line.0 ∷ []) (lines (new.pending ++ z))));
        held = told_then start.output o.old.output o.new.output _ _ _ (λ a b c one more. got_more has.first line.0 a b c one more) has.held got;
      }

  -- the last one: it ended the input, or the run
  pub replied_all : (done failed : Type 0) → (done → result ≡ Ok Ended) → ((failed → ⊥) → o.new.output ≡ o.old.output)
      → WhereTold start.input o.new.input (λ i r. EachReplied done failed i start.output o.new.output)
  replied_all done failed ended unsent = told_then start.input o.old.input o.new.input _ _ _ (λ x y z has told. joined x y has (λ h. (told.0 h).1)) before taken.ended
    where
      joined : (x y : List ℕ) → HasReplied x (old.pending ++ y) start.output o.old.output → (result ≡ Ok Ended → old.pending ++ y ≡ []) → EachReplied done failed x start.output o.new.output
      joined x y has nothing = record {
        first = has.first;
        others = lines (old.pending ++ y);
        lines_are = has.lines_are;
        all = λ h. ap lines (nothing (ended h)) ∙ lines-nil;
        held = λ sound. subst (λ (p : Option (List ℕ)). WhereTold start.output p (GotReplies (length has.first))) (sym (unsent sound)) has.held;
      }

-- no line was taken
pub replied_nothing : (done failed : Type 0) → (done → ⊥) → (i p : Option (List ℕ)) → WhereTold i i (λ x r. EachReplied done failed x p p)
replied_nothing done failed undone i p = told_same i _ (λ x. record {
  first = [];
  others = lines x;
  lines_are = refl;
  all = λ h. absurd (undone h);
  held = λ sound. told_same p _ got_none;
})
