-- The rows are tried in their order.
use Rattle.std.proofs.Common.{◌≡◌, ◌<◌, ◌≤◌, ◌+◌, ℕ, List, ◌∷◌, drop, length, map, get_or, refl, sym, ap, ◌∙◌, arith, add-one}
use Rattle.std.specs.Option.{option_or}
use Rattle.std.proofs.Math.ListN.{drop_of_length-le}
use Rattle.std.proofs.Math.Seq.{drop-cons}
use Rattle.verb_script.proofs.FormLaws.{is_row_at}
use Rattle.verb_script.specs.Parsed.{seen_option}
use Rattle.verb_script.specs.Requests.{first_request, request_in}
use Rattle.verb_script.specs.Rows.{row_name}
use Rattle.verb_script.specs.Words.{unread}
use Rattle.verb_script.specs.declared.rows.RowForm.{RowForm}
use Rattle.verb_script.proofs.parsing.first_of.Goals as goal

step : (rows : List RowForm) (i : ℕ) (d : RowForm) (ws : List (List ℕ)) → i < length rows
    → first_request (map row_name (drop i rows)) ws
    ≡ option_or (request_in (row_name (get_or rows i d)) ws) (first_request (map row_name (drop (i + 1) rows)) ws)
step rows i d ws lt =
    ap (λ rs. first_request (map row_name rs) ws) (drop-cons rows i d lt)
    ∙ ap (λ n. option_or (request_in (row_name (get_or rows i d)) ws) (first_request (map row_name (drop n rows)) ws)) (sym (add-one i))

pub loop-form-init : goal.loop-form-init
loop-form-init c = refl

pub request_of_row-requires : goal.request_of_row-requires
request_of_row-requires c =
    let lt : c.loop-form.form-index < length c.args.rows.now = omega arith in
    is_row_at c.args.rows.now c.loop-form.form-index _ c.requires lt

pub returns-in-Some : goal.returns-in-Some
returns-in-Some c =
    let ws = c.args.verb.now ∷ unread c.args.words in
    let later = first_request (map row_name (drop (c.loop-form.form-index + 1) c.args.rows.now)) ws in
    let lt : c.loop-form.form-index < length c.args.rows.now = omega arith in
    sym (c.loop-form.invariant ∙ (step c.args.rows.now c.loop-form.form-index _ ws lt ∙ ap (λ o. option_or o later) (sym c.in-Some.ensures)))

pub loop-form-preserved : goal.loop-form-preserved
loop-form-preserved c =
    let ws = c.args.verb.now ∷ unread c.args.words in
    let later = first_request (map row_name (drop (c.loop-form.form-index + 1) c.args.rows.now)) ws in
    let lt : c.loop-form.form-index < length c.args.rows.now = omega arith in
    let none = sym c.request_of_row.ensures ∙ ap seen_option c.in_default.is in
    c.loop-form.invariant ∙ (step c.args.rows.now c.loop-form.form-index _ ws lt ∙ ap (λ o. option_or o later) none)

pub returns : goal.returns
returns c =
    let ws = c.args.verb.now ∷ unread c.args.words in
    let over : length c.args.rows.now ≤ c.loop-form.form-index = omega arith in
    sym (c.loop-form.invariant ∙ ap (λ rs. first_request (map row_name rs) ws) (drop_of_length-le c.args.rows.now over))
