-- What comes of a line, by what the line is.
use Rattle.std.proofs.Common.{◌≡◌, ℕ, ◌<◌, ◌≤◌, true, false, List, [], ◌∷◌, ◌++◌, length, take, drop, Option, None, Some, codes, refl, ap, ◌∙◌, arith}
use Rattle.std.specs.Prelude.{nat_le, nat_lt}
use Rattle.std.proofs.lemmas.Bool.Decides.{nat_tests}
use Rattle.cca_vectors.specs.Checks.{first_failing}
use Rattle.line_service.specs.Reading.{line_limit}
use Rattle.line_service.specs.Replies.{Refused}
use Rattle.verb_script.specs.Grammar.{Request}
use Rattle.verb_script.specs.Requests.{request_of}
use Rattle.cca_machine.specs.State.{State}
use Rattle.cca_machine.specs.Act.{Outcome, performed}
use Rattle.cca_machine.specs.Lines.{LineOutcome, line_checks, taken_by, request_outcome, outcome_by, line_outcome}
use Rattle.cca_machine.proofs.DrawLaws.{front_taken}

within : (n : ℕ) → n ≤ 9216 → (nat_le n 9216 ≡ true) × (nat_lt 9216 n ≡ false)
within n h = (grind (arith, nat_tests), grind (arith, nat_tests))

beyond : (n : ℕ) → 9216 < n → (nat_le n 9216 ≡ false) × (nat_lt 9216 n ≡ true)
beyond n h = (grind (arith, nat_tests), grind (arith, nat_tests))

checks_none : (line : List ℕ) → nat_le (length line) line_limit ≡ true → first_failing (line_checks line None) ≡ Some 1
checks_none line short = rw short refl

-- a line that is no request breaks rule 01
pub line-no_request : (s : State) (random line : List ℕ) → length line ≤ line_limit → request_of line ≡ None
    → line_outcome s random line ≡ record { state = s; reply = Refused 1 (codes "-"); random = random }
unfolding line_outcome
line-no_request s random line short none =
    rw none (ap (λ (o : Option ℕ). outcome_by o s random None) (checks_none line (within (length line) short).0))

checks_long : (line : List ℕ) (o : Option Request) → nat_le (length line) line_limit ≡ false → nat_lt line_limit (length line) ≡ true
    → first_failing (line_checks line o) ≡ Some 2
checks_long line None short long = rw (short, long) refl
checks_long line (Some request) short long = rw (short, long) refl

-- a line that is too long breaks rule 02
pub line-too_long : (s : State) (random line : List ℕ) → line_limit < length line
    → line_outcome s random line ≡ record { state = s; reply = Refused 2 (codes "-"); random = random }
unfolding line_outcome
line-too_long s random line long =
    let size = beyond (length line) long in
    ap (λ (o : Option ℕ). outcome_by o s random (request_of line)) (checks_long line (request_of line) size.0 size.1)

line_passes : (line : List ℕ) (request : Request) → length line ≤ line_limit → first_failing (line_checks line (Some request)) ≡ None
line_passes line request short = let size = within (length line) short in rw (size.0, size.1) refl

-- a line that spells a request is that request, judged and carried out
pub line-request : (s : State) (random line : List ℕ) (request : Request) → length line ≤ line_limit → request_of line ≡ Some request
    → line_outcome s random line ≡ request_outcome s random request
unfolding line_outcome
line-request s random line request short spelled =
    rw spelled (ap (λ (o : Option ℕ). outcome_by o s random (Some request)) (line_passes line request short))

takes : (xs rest : List ℕ) → take (length xs) (xs ++ rest) ≡ xs
takes [] rest = refl
takes (x ∷ xs) rest = ap (λ ys. x ∷ ys) (takes xs rest)

drops : (xs rest : List ℕ) → drop (length xs) (xs ++ rest) ≡ rest
drops [] rest = refl
drops (x ∷ xs) rest = drops xs rest

abbrev with_bytes : State → Request → ℕ → List ℕ → LineOutcome
with_bytes s request count random =
    let o = performed s (take count random) request in record { state = o.state; reply = o.reply; random = drop count random }

abbrev with_rest : Outcome → List ℕ → LineOutcome
with_rest o rest = record { state = o.state; reply = o.reply; random = rest }

-- with exactly the random bytes that the request takes, whatever follows them
pub line-drawn : (s : State) (drawn rest line : List ℕ) (request : Request) → length line ≤ line_limit → request_of line ≡ Some request
    → length drawn ≡ taken_by s drawn request
    → line_outcome s (drawn ++ rest) line
    ≡ record { state = (performed s drawn request).state; reply = (performed s drawn request).reply; random = rest }
line-drawn s drawn rest line request short spelled size =
    line-request s (drawn ++ rest) line request short spelled
    ∙ (ap (λ (n : ℕ). with_bytes s request n (drawn ++ rest)) (front_taken s drawn rest request size)
    ∙ (ap (λ (ds : List ℕ). with_rest (performed s ds request) (drop (length drawn) (drawn ++ rest))) (takes drawn rest)
    ∙ ap (λ (left : List ℕ). with_rest (performed s drawn request) left) (drops drawn rest)))
