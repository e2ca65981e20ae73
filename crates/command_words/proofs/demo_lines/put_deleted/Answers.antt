-- Only an even number has a line.
use Rattle.std.proofs.Common.{◌≡◌, List, ℕ, [], ◌∷◌, ◌++◌, codes, OnOk, subst, arith}
use Rattle.command_words.specs.Demo.{joined}
use Rattle.command_words.proofs.DemoLemmas.{deleted-odd, deleted-even}
use Rattle.command_words.proofs.demo_lines.put_deleted.Goals as goal

pub returns-then-i-ne0 : goal.returns-then-i-ne0
returns-then-i-ne0 c = deleted-odd c.args.i c.args.text.now.items (λ h. omega (arith, h, c.if-i-ne0.true))

pub returns : goal.returns
returns c =
    subst (λ (ls : List (List ℕ)). OnOk c.put_line.result (c.put_line.new.text.items ≡ c.args.text.now.items ++ joined ls))
    (deleted-even c.args.i (omega (arith, c.if-i-ne0.false)))
    (subst (λ (d : List ℕ). OnOk c.put_line.result (c.put_line.new.text.items ≡ c.args.text.now.items
    ++ joined ((codes "CSNBKRD role=DEFAULT label=KEY." ++ (d ++ ([] ++ []))) ∷ []))) c.decimal_digits-number.ensures c.put_line.ensures)
