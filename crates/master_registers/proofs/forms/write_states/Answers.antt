use Rattle.std.proofs.Common.{◌≡◌, ℕ, List, ◌∷◌, replicate, set, ap, ◌∙◌}
use Rattle.master_registers.specs.BodyForm.{states_body}
use Rattle.master_registers.specs.RegisterBody.{state_code, kept_code}
use Rattle.master_registers.proofs.forms.write_states.Goals as goal

pub returns : goal.returns
unfolding states_body
returns c =
    let zeros : c.fill.new.self ≡ replicate 192 0 = c.fill.ensures.after (λ y is. is) ∙ ap (λ (n : ℕ). replicate n 0) c.told-body in
    let state : ℕ = c.new_state_byte.result in
    let current : ℕ = c.kept_state_byte.result in
    let old : ℕ = c.kept_state_byte-2.result in
    let coded : List ℕ = replicate 188 0 in
    ap (λ body. set (set (set (set body 0 1) 1 state) 2 current) 3 old) zeros
    ∙ ap (λ n. 1 ∷ n ∷ current ∷ old ∷ coded) c.new_state_byte.ensures
    ∙ ap (λ n. 1 ∷ state_code c.args.held.now.new_state ∷ n ∷ old ∷ coded) c.kept_state_byte.ensures
    ∙ ap (λ n. 1 ∷ state_code c.args.held.now.new_state ∷ kept_code c.args.held.now.current_pattern ∷ n ∷ coded) c.kept_state_byte-2.ensures
