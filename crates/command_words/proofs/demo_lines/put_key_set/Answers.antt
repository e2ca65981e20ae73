-- Three lines, one behind the other.
use Rattle.std.proofs.Common.{[], ◌∷◌, ◌++◌, codes}
use Rattle.command_words.proofs.DemoLemmas.{behind, behind_ok}
use Rattle.command_words.proofs.demo_lines.put_key_set.Goals as goal

pub returns : goal.returns
returns c =
    let first = (codes "CSNBMKP role=DEFAULT action=FIRST part=" ++ c.args.part.now) ∷ [] in
    let last = codes "CSNBMKP role=DEFAULT action=LAST part=000000000000000000000000000000000000000000000000" ∷ [] in
    behind_ok c.put_line-3.result c.args.text.now.items c.put_line-2.new.text.items c.put_line-3.new.text.items (first ++ last)
    (codes "CSNBMKP role=DEFAULT action=SET" ∷ [])
    (behind c.args.text.now.items c.put_line.new.text.items c.put_line-2.new.text.items first last c.in_ok-put_line.ensures c.in_ok-put_line-2.ensures)
    c.put_line-3.ensures
