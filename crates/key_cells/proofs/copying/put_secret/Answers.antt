use Rattle.std.proofs.Common.{◌≡◌, length, take, drop, set, ◌+◌, ◌++◌, sym, ap, ◌∙◌, arith}
use Rattle.std.proofs.lemmas.List.{append-nil, take-append-drop, take_all}
use Rattle.key_cells.specs.Secret.{bytes_of}
use Rattle.key_cells.proofs.PieceLemmas.{put-more}
use Rattle.key_cells.proofs.copying.put_secret.Goals as goal

pub loop-byte-init : goal.loop-byte-init
loop-byte-init g c =
    let none : c.args.at + 0 ≡ c.args.at = omega arith in
    sym (ap (λ front. front ++ drop (c.args.at + 0) c.args.into.now) (append-nil (take c.args.at c.args.into.now))
    ∙ ap (λ n. take c.args.at c.args.into.now ++ drop n c.args.into.now) none
    ∙ take-append-drop c.args.at c.args.into.now)

pub loop-byte-preserved : goal.loop-byte-preserved
loop-byte-preserved g c =
    ap (λ place. set place (c.args.at + c.loop-byte.byte) c.byte.result) c.loop-byte.invariant
    ∙ ap (λ b. set (take c.args.at c.args.into.now ++ take c.loop-byte.byte (bytes_of c.args.secret.now) ++ drop (c.args.at + c.loop-byte.byte) c.args.into.now) (c.args.at + c.loop-byte.byte) b) c.byte.ensures.value
    ∙ put-more c.args.into.now (bytes_of c.args.secret.now) c.args.at c.loop-byte.byte (omega arith) (omega (arith, c.byte.ensures.size))

pub returns-clause-put : goal.returns-clause-put
returns-clause-put g c =
    let whole : length (bytes_of c.args.secret.now) ≡ g.row.N = c.args.secret.now.whole in
    let all : c.loop-byte.byte ≡ g.row.N = omega arith in
    c.loop-byte.invariant
    ∙ ap (λ n. take c.args.at c.args.into.now ++ take n (bytes_of c.args.secret.now) ++ drop (c.args.at + n) c.args.into.now) all
    ∙ ap (λ bytes. take c.args.at c.args.into.now ++ bytes ++ drop (c.args.at + g.row.N) c.args.into.now)
    (take_all g.row.N (bytes_of c.args.secret.now) (omega arith))
