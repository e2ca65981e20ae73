use Rattle.std.proofs.Common.{◌≡◌, List, ℕ, Option, refl}
use Rattle.key_tokens.specs.Denotes.{ClearKey}
use Rattle.master_registers.specs.Masters.{Empty, Full, NewRegister, Partial, after_set, state_of}
use Rattle.master_registers.specs.declared.registers.NewState.TheVariants as state
use Rattle.verb_rules.specs.Keys.{token_for}
use Rattle.key_transport.specs.Tokens.{current_token, new_token}
use Rattle.key_transport.proofs.changing.a_new_token_is_current_once_set.Goals as goal

-- an empty register isn't full, nor is one of some parts
empty_not_full : state.Empty ≡ state.Full → ⊥
empty_not_full is = cc is

partial_not_full : state.Partial ≡ state.Full → ⊥
partial_not_full is = cc is

by_state : (coming : NewRegister) (current former : Option (List ℕ)) (clear : ClearKey) → state_of coming ≡ state.Full
    → new_token (record { coming = coming; current = current; former = former }) clear
    ≡ current_token (after_set (record { coming = coming; current = current; former = former })) clear
unfolding new_token token_for
by_state Empty current former clear full = absurd (empty_not_full full)
by_state (Partial bytes) current former clear full = absurd (partial_not_full full)
by_state (Full bytes) current former clear full = refl

pub returns : goal.returns
returns c = λ m clear full. by_state m.coming m.current m.former clear full
