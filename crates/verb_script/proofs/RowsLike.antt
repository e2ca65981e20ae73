-- Of the rows only those whose verbs have the seventh letter of a line's verb need be tried.
use Rattle.std.proofs.Common.{◌≡◌, ℕ, Bool, true, false, cond, List, [], ◌∷◌, filter, get_or, Option, None, refl, sym, ap, ◌∙◌}
use Rattle.std.specs.Option.{option_or}
use Rattle.std.specs.Str.{bytes_eq}
use Rattle.std.proofs.lemmas.Bool.Decides.{Decides-eqb}
use Rattle.std.proofs.lemmas.Slice.Eq.{bytes_eq-Decides}
use Rattle.verb_script.specs.Grammar.{row_of, all_requests, Request}
use Rattle.verb_script.specs.declared.rows.RequestName.{RequestName}
use Rattle.verb_script.specs.Requests.{words, first_request, request_in, row_request, request_of}
use Rattle.verb_script.specs.Rows.{has_seventh}

other_verb : (v : List ℕ) (name : RequestName) (b : Bool) → has_seventh (get_or v 6 0) name ≡ false
    → bytes_eq v (row_of name).verb ≡ b → b ≡ false
other_verb v name true other same =
    let is : v ≡ (row_of name).verb = (bytes_eq-Decides v (row_of name).verb).0 same in
    let alike : has_seventh (get_or v 6 0) name ≡ true =
    (Decides-eqb (get_or (row_of name).verb 6 0) (get_or v 6 0)).1 (ap (λ text. get_or text 6 0) (sym is)) in
    cc
other_verb v name false other same = refl

not_of_row : (v : List ℕ) (ws : List (List ℕ)) (name : RequestName) → has_seventh (get_or v 6 0) name ≡ false
    → request_in name (v ∷ ws) ≡ None
not_of_row v ws name other =
    ap (λ b. cond b (row_request name ws) None) (other_verb v name (bytes_eq v (row_of name).verb) other refl)

tried : (b : Bool) (name : RequestName) (names : List RequestName) (ws : List (List ℕ)) (later : Option Request)
    → later ≡ first_request names ws → (b ≡ false → request_in name ws ≡ None)
    → option_or (request_in name ws) later ≡ first_request (cond b (name ∷ names) names) ws
tried true name names ws later same other = ap (option_or (request_in name ws)) same
tried false name names ws later same other = ap (λ o. option_or o later) (other refl) ∙ same

first_like : (v : List ℕ) (ws : List (List ℕ)) (names : List RequestName)
    → first_request names (v ∷ ws) ≡ first_request (filter (has_seventh (get_or v 6 0)) names) (v ∷ ws)
first_like v ws [] = refl
first_like v ws (name ∷ names) =
    tried (has_seventh (get_or v 6 0) name) name (filter (has_seventh (get_or v 6 0)) names) (v ∷ ws) (first_request names (v ∷ ws))
    (first_like v ws names) (not_of_row v ws name)

-- the line's request is that of the first of these rows
pub request_of-like : (line v : List ℕ) (ws : List (List ℕ)) (letter : ℕ) (names : List RequestName) → letter ≡ get_or v 6 0
    → names ≡ filter (has_seventh letter) all_requests → words line ≡ v ∷ ws → first_request names (v ∷ ws) ≡ request_of line
unfolding request_of
request_of-like line v ws letter names at are cut =
    ap (λ ns. first_request ns (v ∷ ws)) (are ∙ ap (λ l. filter (has_seventh l) all_requests) at)
    ∙ (sym (first_like v ws all_requests) ∙ ap (λ xs. first_request all_requests xs) (sym cut))
