-- Two lines, one behind the other.
use Rattle.std.proofs.Common.{◌≡◌, List, ℕ, [], ◌∷◌, ◌++◌, codes, OnOk, subst}
use Rattle.command_words.specs.Demo.{joined, four_digits, four_hex_digits}
use Rattle.command_words.proofs.DemoLemmas.{behind_ok}
use Rattle.command_words.proofs.demo_lines.put_made.Goals as goal

pub returns : goal.returns
returns c =
    let old = c.args.text.now.items in
    let mid = c.put_line.new.text.items in
    behind_ok c.put_line-2.result old mid c.put_line-2.new.text.items
    ((codes "CSNBKRC role=DEFAULT label=KEY." ++ four_digits c.args.i) ∷ [])
    ((codes "CSNBCKI role=DEFAULT clear=000000000000" ++ (four_hex_digits c.args.i ++ (codes " to=L:KEY." ++ four_digits c.args.i))) ∷ [])
    (subst (λ (d : List ℕ). mid ≡ old ++ joined ((codes "CSNBKRC role=DEFAULT label=KEY." ++ (d ++ ([] ++ []))) ∷ [])) c.decimal_digits-number.ensures
    c.in_ok-put_line.ensures)
    (subst (λ (d : List ℕ). OnOk c.put_line-2.result (c.put_line-2.new.text.items ≡ mid
    ++ joined ((codes "CSNBCKI role=DEFAULT clear=000000000000" ++ (d ++ (codes " to=L:KEY." ++ four_digits c.args.i))) ∷ []))) c.hex_digits-key.ensures
    (subst (λ (d : List ℕ). OnOk c.put_line-2.result (c.put_line-2.new.text.items ≡ mid
    ++ joined ((codes "CSNBCKI role=DEFAULT clear=000000000000" ++ (c.hex_digits-key.result ++ (codes " to=L:KEY." ++ d))) ∷ []))) c.decimal_digits-number.ensures
    c.put_line-2.ensures))
