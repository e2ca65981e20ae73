-- The tokens among the fields of a reply.
use Rattle.std.proofs.Common.{ℕ, Bool, true, false, List, [], ◌∷◌, ◌++◌}
use Rattle.std.specs.Prelude.{⊤}
use Rattle.line_service.specs.Replies.{Field, Hex, Text, Number}
use Rattle.cca_machine.specs.Act.{Effect, Show, Write, fields_after}
use Rattle.cca_machine.specs.Keys.{warning}
use Rattle.cca_machine.specs.State.{State}
use Rattle.cca_laws.specs.ReplyTokens.{EachToken, IfToken, is_token_field}

module _ (P : List ℕ → Type 0) where
  -- P holds of each token that the effect shows
  abbrev pub EffectShows : Effect → Type 0
  EffectShows (Show fields) = EachToken P fields
  EffectShows (Write label key fields) = EachToken P fields
  EffectShows _ = ⊤

  pub fields_have : (s : State) (e : Effect) → EffectShows e → EachToken P (fields_after s e)
  fields_have s (Show fields) is = is
  fields_have s (Write label key fields) is = is
  fields_have s _ is = tt

  if_append : (t : Bool) (bytes : List ℕ) (one other : Type 0) → (one → other) → IfToken P t bytes one → IfToken P t bytes other
  if_append true bytes one other more is = (is.0, more is.1)
  if_append false bytes one other more is = more is

  pub each-append : (fs gs : List Field) → EachToken P fs → EachToken P gs → EachToken P (fs ++ gs)
  each-append [] gs first second = second
  each-append (Hex name bytes ∷ fs) gs first second =
      if_append (is_token_field name) bytes (EachToken P fs) (EachToken P (fs ++ gs)) (λ is. each-append fs gs is second) first
  each-append (Text name bytes ∷ fs) gs first second = each-append fs gs first second
  each-append (Number name value ∷ fs) gs first second = each-append fs gs first second

  pub warning_has : (b : Bool) → EachToken P (warning b)
  warning_has true = tt
  warning_has false = tt
