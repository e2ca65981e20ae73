-- The line has the digits of the number.
use Rattle.std.proofs.Common.{◌≡◌, List, ℕ, [], ◌∷◌, ◌++◌, codes, OnOk, subst}
use Rattle.command_words.specs.Demo.{joined}
use Rattle.command_words.proofs.demo_lines.put_tested.Goals as goal

pub returns : goal.returns
returns c =
    subst (λ (d : List ℕ). OnOk c.put_line.result (c.put_line.new.text.items ≡ c.args.text.now.items
    ++ joined ((codes "CSNBKYT role=DEFAULT key=L:KEY." ++ (d ++ ([] ++ []))) ∷ []))) c.decimal_digits-number.ensures c.put_line.ensures
