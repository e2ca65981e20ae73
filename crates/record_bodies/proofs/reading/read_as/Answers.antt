use Rattle.std.proofs.Common.{◌≡◌, ℕ, List, true, false, Option, None, refl, sym, ap, subst, ◌∙◌}
use Rattle.std.specs.Prelude.{slice_index}
use Rattle.master_registers.specs.declared.patterns.Pattern.{Pattern}
use Rattle.record_bodies.specs.RecordBody.{IsKeptWith, record_body, token_in, second_in, null_kind, no_token, no_second, HoldsUnder, ReadsPattern, StandsAs}
use Rattle.record_bodies.specs.declared.rows.Row.{Row}
use Rattle.record_bodies.specs.declared.rows.Second.{Second}
use Rattle.record_bodies.proofs.PieceLaws.{row_body, null_pieces, key_pieces, pieces_stand}
use Rattle.record_bodies.proofs.reading.read_as.Goals as goal
use Rattle.record_bodies.proofs.reading.read_as.Goals.{In-Some-token_under}
use Rattle.key_cells.proofs.AnswerLemmas.{not_true}

-- the pieces of a body as the code has them
module _ (bytes token : List ℕ) (second : Second) (is_token : token ≡ token_in bytes) (is_second : second ≡ second_in bytes) where
  as_spelled : (label : List ℕ) → bytes ≡ record_body (slice_index bytes 0) label (token_in bytes) (second_in bytes) → bytes ≡ record_body (slice_index bytes 0) label token second
  as_spelled label is = is ∙ ap (λ t. record_body (slice_index bytes 0) label t (second_in bytes)) (sym is_token) ∙ ap (record_body (slice_index bytes 0) label token) (sym is_second)

  as_held : (pattern : Pattern) (ahead : Option Pattern) → HoldsUnder pattern ahead (slice_index bytes 0) (token_in bytes) (second_in bytes) → HoldsUnder pattern ahead (slice_index bytes 0) token second
  as_held pattern ahead holds =
      subst (λ (t : List ℕ). HoldsUnder pattern ahead (slice_index bytes 0) t second) (sym is_token)
      (subst (λ (s : Second). HoldsUnder pattern ahead (slice_index bytes 0) (token_in bytes) s) (sym is_second) holds)

  as_null : (ahead : Option Pattern) → (slice_index bytes 0 ≡ null_kind) × (token_in bytes ≡ no_token) × (second_in bytes ≡ no_second) × (ahead ≡ None)
      → (slice_index bytes 0 ≡ null_kind) × (token ≡ no_token) × (second ≡ no_second) × (ahead ≡ None)
  as_null ahead null = (null.0, is_token ∙ null.1, is_second ∙ null.2, null.3)

pub returns-then-not-is_record-clause-none : goal.returns-then-not-is_record-clause-none
returns-then-not-is_record-clause-none c _ reads =
    let bytes : List ℕ = c.args.body.now in
    let row : Row = c.args.row.now in
    not_true c.is_record.result c.if-not-is_record.true
    (c.is_record.ensures.body.1 (as_spelled bytes c.token_in-token.result c.second_in-second.result c.token_in-token.ensures.token c.second_in-second.ensures.second row.label (row_body bytes row reads)))

pub returns-in-None-token_under-clause-none : goal.returns-in-None-token_under-clause-none
returns-in-None-token_under-clause-none c _ reads =
    let bytes : List ℕ = c.args.body.now in
    let row : Row = c.args.row.now in
    c.in-None-token_under.ensures.none refl
    (as_held bytes c.token_in-token.result c.second_in-second.result c.token_in-token.ensures.token c.second_in-second.ensures.second c.in-Some.pattern row.ahead (key_pieces bytes row reads c.in-Some.pattern c.in-Some.is))

pub returns-else-is_null-clause-none : goal.returns-else-is_null-clause-none
returns-else-is_null-clause-none c _ reads =
    let bytes : List ℕ = c.args.body.now in
    let row : Row = c.args.row.now in
    not_true c.is_null.result c.if-is_null.false
    (c.is_null.ensures.1 (as_null bytes c.token_in-token.result c.second_in-second.result c.token_in-token.ensures.token c.second_in-second.ensures.second row.ahead (null_pieces bytes row reads c.in-None.is)))

-- the token that is answered stands in the body
found_stands : (c : In-Some-token_under) → StandsAs c.args.body.now c.args.row.now.label c.in-Some-token_under.found c.args.row.now.ahead
found_stands c =
    let bytes : List ℕ = c.args.body.now in
    let row : Row = c.args.row.now in
    subst (λ (t : List ℕ). StandsAs bytes row.label t row.ahead) (sym c.in-Some-token_under.ensures.found)
    (pieces_stand bytes row.label c.token_in-token.result (slice_index bytes 0) c.second_in-second.result c.in-Some.pattern row.ahead (c.is_record.ensures.body.0 c.if-not-is_record.false) (c.in-Some-token_under.ensures.some refl))

pub returns-in-Some-token_under-clause-reads : goal.returns-in-Some-token_under-clause-reads
returns-in-Some-token_under-clause-reads c _ =
    let row : Row = c.args.row.now in (
      c.is_record.ensures.label,
      subst (λ (p : Option Pattern). ReadsPattern c.args.body.now row.label p row.ahead) (sym c.in-Some.is)
          (record { token = c.in-Some-token_under.found; is_kept = c.in-Some-token_under.ensures.kept; body = found_stands (goal.at.returns-in-Some-token_under-clause-reads c).In-Some-token_under }),
    )

pub returns-in-Some-token_under-clause-token : goal.returns-in-Some-token_under-clause-token
returns-in-Some-token_under-clause-token c = record {
  kept = subst (λ (p : Option Pattern). IsKeptWith p c.in-Some-token_under.found) (sym c.in-Some.is) c.in-Some-token_under.ensures.kept;
  stands = found_stands (goal.at.returns-in-Some-token_under-clause-token c).In-Some-token_under;
}
