-- What comes of a line, by cases of the verdict, and of lines, one after another.
use Rattle.std.proofs.Common.{◌≡◌, ℕ, Bool, true, false, List, [], ◌∷◌, take, Option, None, Some, refl, sym, subst, codes}
use Rattle.std.specs.Prelude.{not, is_none, ⊤, ◌&&◌, if◌then◌else◌}
use Rattle.cca_roles.specs.Points.{includes}
use Rattle.cca_vectors.specs.Checks.{check, first_failing}
use Rattle.verb_script.specs.Grammar.{Request}
use Rattle.verb_script.specs.Requests.{request_of}
use Rattle.key_transport.specs.UniqueHalves.{repeats}
use Rattle.cca_machine.specs.Draws.{Draw, NoBytes, EightBytes, KeyBytes, draw_of}
use Rattle.cca_machine.specs.State.{State}
use Rattle.cca_machine.specs.Verdict.{Refusal, draw_verdict, early_verdict, general_checks, held_points, lacks, needed_points, needs_master, operands_verdict, or_last, or_refused, or_then, refusal, verb_verdict, verdict}
use Rattle.cca_machine.proofs.DrawLaws.{early_none, verdict_splits}
use Rattle.cca_machine.specs.Act.{effect, or_act, performed, state_after}
use Rattle.cca_machine.specs.Lines.{line_checks, line_outcome, outcome_by, taken_by}
use Rattle.cca_machine.specs.Session.{state_after as state_after_lines}
use Rattle.cca_laws.specs.EachLine.{EachRequest}

-- the state after a request that no rule refuses
abbrev pub after : State → List ℕ → Request → State
after s drawn r = state_after s (effect s drawn r.name r)

-- ---- a permitted request

-- what a request has passed that no rule refuses
pub record Permitted (s : State) (r : Request) : Type 0 where
  pub held : ℕ
  pub role : held_points s r ≡ Some held
  pub points : includes held (needed_points r.name r) ≡ true
  pub master : (needs_master r.name && is_none s.registers.current) ≡ false
  pub operands : operands_verdict s r ≡ None
  pub verb : verb_verdict s r ≡ None

pub refused_none : (o : Option ℕ) (name : List ℕ) (v : Option Refusal) → or_refused o name v ≡ None → (o ≡ None) × (v ≡ None)
refused_none None name v is = (refl, is)
refused_none (Some rule) name v is = cc

then_none : (a b : Option Refusal) → or_then a b ≡ None → (a ≡ None) × (b ≡ None)
then_none None b is = (refl, is)
then_none (Some r) b is = cc

two_pass : (b m : Bool) → first_failing (check 4 (not b) ∷ check 5 m ∷ []) ≡ None → (b ≡ true) × (m ≡ false)
two_pass true true is = cc
two_pass true false is = (refl, refl)
two_pass false m is = cc

general_pass : (h : Option ℕ) (needed : ℕ) (m : Bool) → first_failing (check 3 (is_none h) ∷ check 4 (lacks h needed) ∷ check 5 m ∷ []) ≡ None
    → (held : ℕ) × (h ≡ Some held) × (includes held needed ≡ true) × (m ≡ false)
general_pass None needed m is = cc
general_pass (Some held) needed m is = let both = two_pass (includes held needed) m is in (held, refl, both.0, both.1)

pub permitted : (s : State) (random : List ℕ) (r : Request) → verdict s random r ≡ None → Permitted s r
permitted s random r is =
    let whole = refused_none (first_failing (general_checks s r)) (codes "-") (or_then (operands_verdict s r) (verb_verdict s r)) (early_none s random r is) in
    let parts = then_none (operands_verdict s r) (verb_verdict s r) whole.1 in
    let general = general_pass (held_points s r) (needed_points r.name r) (needs_master r.name && is_none s.registers.current) whole.0 in
    record { held = general.0; role = general.1; points = general.2; master = general.3; operands = parts.0; verb = parts.1 }

-- ---- the last rule

module _ (P : Option Refusal → Type 0) (last : P (Some (refusal 34 (codes "length")))) where
  or_drawn : (before : Option Refusal) (d : Draw) (random : List ℕ) → P before → P (or_last before (draw_verdict d random))
  or_drawn before NoBytes random is = is
  or_drawn before EightBytes random is = is
  or_drawn before (KeyBytes key_length) random is = by_test before (repeats key_length random) is
    where
      by_test : (o : Option Refusal) (t : Bool) → P o → P (or_last o (if t then Some (refusal 34 (codes "length")) else None))
      by_test None true has = last
      by_test (Some r) true has = has
      by_test o false has = has

  -- what holds of the verdict by the rules that are asked before, and of the refusal by the last rule
  pub of_verdict : (s : State) (random : List ℕ) (r : Request) → P (early_verdict s r) → P (verdict s random r)
  of_verdict s random r early =
      subst P (sym (verdict_splits s random r)) (or_drawn (early_verdict s r) (draw_of r.name r) random early)

-- ---- a line

module _ (P : State → Type 0) (s : State) (before : P s) where
  by_verdict : (drawn : List ℕ) (r : Request) (v : Option Refusal) → verdict s drawn r ≡ v
      → (verdict s drawn r ≡ None → P (after s drawn r)) → P (or_act v s drawn r).state
  by_verdict drawn r (Some refusal) is next = before
  by_verdict drawn r None is next = next is

  by_checks : (random line : List ℕ) (o : Option ℕ) (q : Option Request) → request_of line ≡ q
      → ((drawn : List ℕ) (r : Request) → request_of line ≡ Some r → verdict s drawn r ≡ None → P (after s drawn r)) → P (outcome_by o s random q).state
  unfolding performed
  by_checks random line (Some rule) q is next = before
  by_checks random line None None is next = before
  by_checks random line None (Some r) is next =
      let drawn : List ℕ = take (taken_by s random r) random in
      by_verdict drawn r (verdict s drawn r) refl (λ permits. next drawn r is permits)

  -- P holds after a line, where it holds before it and after each request that no rule refuses
  pub by_line : (random line : List ℕ)
      → ((drawn : List ℕ) (r : Request) → request_of line ≡ Some r → verdict s drawn r ≡ None → P (after s drawn r)) → P (line_outcome s random line).state
  unfolding line_outcome
  by_line random line next = by_checks random line (first_failing (line_checks line (request_of line))) (request_of line) refl next

-- ---- lines

module _ (P : State → Type 0) (Q : State → Request → Type 0)
    (step : (s : State) (drawn : List ℕ) (r : Request) → P s → Q s r → verdict s drawn r ≡ None → P (after s drawn r)) where
  -- P holds after lines, where it lasts over each request of which Q holds
  pub over_lines : (s : State) (random : List ℕ) (lines : List (List ℕ)) → P s → EachRequest Q s random lines → P (state_after_lines s random lines)
  over_lines s random [] now each = now
  over_lines s random (line ∷ lines) now each =
      over_lines (line_outcome s random line).state (line_outcome s random line).random lines
      (by_line P s now random line (λ drawn r is permits. step s drawn r now (each.0 r is) permits)) each.1

pub Always : State → Request → Type 0
Always s r = ⊤

pub always : (s : State) (random : List ℕ) (lines : List (List ℕ)) → EachRequest Always s random lines
unfolding Always
always s random [] = tt
always s random (line ∷ lines) = (λ r is. tt, always (line_outcome s random line).state (line_outcome s random line).random lines)
