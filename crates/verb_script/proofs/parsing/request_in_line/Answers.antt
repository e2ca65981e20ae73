-- The rows that have the verb's seventh letter are tried.
use Rattle.std.proofs.Common.{sym, ◌∙◌}
use Rattle.verb_script.specs.Words.{unread}
use Rattle.verb_script.proofs.FormLaws.{are_rows, names_are}
use Rattle.verb_script.proofs.RowsLike.{request_of-like}
use Rattle.verb_script.proofs.parsing.request_in_line.Goals as goal

pub first_of-requires : goal.first_of-requires
first_of-requires c = are_rows _ _ c.rows_with.ensures

pub returns : goal.returns
returns c =
    c.first_of.ensures
    ∙ request_of-like c.args.line.now c.in_ok-verb.verb.now (unread c.next.new.self) _ _ c.seventh_letter.ensures (names_are _ _ c.rows_with.ensures)
    (sym c.of-words.ensures ∙ c.in_ok-verb.ensures.word)
