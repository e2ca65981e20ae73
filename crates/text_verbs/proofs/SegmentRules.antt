-- Rule 36 of a chain, before the other rules of a segment.
use Rattle.std.proofs.Common.{◌≡◌, ◌∙◌, ℕ, List, None, Some, Option, IfSome, sym, ap, subst, codes}
use Rattle.std.specs.Prelude.{MatchOption}
use Rattle.cca_vectors.specs.Checks.{first_failing}
use Rattle.key_cells.specs.declared.leases.Lease.{Lease}
use Rattle.line_service.specs.Replies.{Field}
use Rattle.text_segments.specs.Chains.{chain_checks, chain_of}
use Rattle.text_segments.specs.declared.chains.Chain.{Chain}
use Rattle.cca_machine.specs.Verdict.{Questions, chain_questions, first_refusal, or_refused, refusal}
use Rattle.cca_machine.specs.Deciding.{ShowsOver}
use Rattle.cca_machine.specs.declared.effects.Effect.{Effect as CodeEffect}

given : (r : Option Chain) (before : Chain) (bytes : List ℕ) → r ≡ Some before
    → MatchOption r (first_failing (chain_checks bytes) ≡ Some 36) (λ chain. first_failing (chain_checks bytes) ≡ None)
    → IfSome r (λ chain. chain ≡ chain_of bytes)
    → (first_failing (chain_checks bytes) ≡ None) × (before ≡ chain_of bytes)
given None before bytes is judges chain = cc is
given (Some k) before bytes is judges chain = let same : k ≡ before = cc in (judges, sym same ∙ chain)

-- what goes on from a chain that a segment gives: what the other rules leave
pub goes_on : {r : Option Chain} {before : Chain} {old new : Lease} (bytes : List ℕ) (e : CodeEffect) (reply : List ℕ)
    (others : Chain → List Questions) (fields : Chain → List Field) → r ≡ Some before
    → MatchOption r (first_failing (chain_checks bytes) ≡ Some 36) (λ chain. first_failing (chain_checks bytes) ≡ None)
    → IfSome r (λ chain. chain ≡ chain_of bytes) → ShowsOver old new (first_refusal (others before)) (fields before) e reply
    → ShowsOver old new (first_refusal (chain_questions bytes (others (chain_of bytes)))) (fields (chain_of bytes)) e reply
goes_on {r} {before} {old} {new} bytes e reply others fields is judges chain shows =
    let read = given r before bytes is judges chain in
    let last = first_refusal (others (chain_of bytes)) in
    subst (λ v. ShowsOver old new v (fields (chain_of bytes)) e reply)
    (sym (ap (λ (x : Option ℕ). or_refused x (codes "chain") last) read.0))
    (subst (λ (k : Chain). ShowsOver old new (first_refusal (others k)) (fields k) e reply) read.1 shows)

refused_by : (r : Option Chain) (bytes : List ℕ) → r ≡ None
    → MatchOption r (first_failing (chain_checks bytes) ≡ Some 36) (λ chain. first_failing (chain_checks bytes) ≡ None)
    → first_failing (chain_checks bytes) ≡ Some 36
refused_by None bytes is judges = judges
refused_by (Some k) bytes is judges = cc is

-- one that none gives
pub chain_refused : {r : Option Chain} (bytes : List ℕ) (others : List Questions) → r ≡ None
    → MatchOption r (first_failing (chain_checks bytes) ≡ Some 36) (λ chain. first_failing (chain_checks bytes) ≡ None)
    → first_refusal (chain_questions bytes others) ≡ Some (refusal 36 (codes "chain"))
chain_refused {r} bytes others is judges =
    ap (λ (x : Option ℕ). or_refused x (codes "chain") (first_refusal others)) (refused_by r bytes is judges)
