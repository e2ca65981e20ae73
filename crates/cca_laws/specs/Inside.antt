-- Requests that open no key token and show none, and states that differ in the bytes of the master key registers alone.
use Rattle.std.specs.Prelude.{◌≡◌, ℕ, Bool, true, false, ◌||◌, List, [], ◌∷◌, codes, is_none}
use Rattle.master_registers.specs.Masters.{Masters, has_pattern_of, state_of}
use Rattle.verb_script.specs.Grammar.{Request, value_of}
use Rattle.verb_script.specs.declared.rows.RequestName.{RequestName}
use Rattle.verb_script.specs.declared.rows.RequestName.TheVariants.{Csnbcki, CsnbkgnOp, CsnbkgnPair, Csnbkim, Csnbpex, CsnbkpiFirst, CsnbkpiMiddle, Csnbkrr, CsnbmkpSet, ReencipherAhead}
use Rattle.verb_script.specs.Named.{label_named}
use Rattle.cca_machine.specs.Operands.{Operand, listed, operands}
use Rattle.cca_machine.specs.declared.asking.Ask.{Ask}
use Rattle.cca_machine.specs.declared.asking.Ask.TheVariants.{AnyToken, Key, Token, External, Record, Held, NewLabel, Target, Nothing}

-- the operand is a key as an internal token
abbrev pub is_internal_token : List ℕ → Ask → Bool
is_internal_token text (Key need) = is_none (label_named text)
is_internal_token text (Token need) = true
is_internal_token text AnyToken = false
is_internal_token text (External need) = false
is_internal_token text Record = false
is_internal_token text Held = false
is_internal_token text NewLabel = false
is_internal_token text Target = false
is_internal_token text Nothing = false

abbrev pub any_internal_token : List Operand → Bool
any_internal_token [] = false
any_internal_token (o ∷ os) = is_internal_token o.text o.ask || any_internal_token os

-- the reply has an internal token: of a key that is delivered into it, or that of a record
abbrev pub shows_internal : RequestName → List ℕ → Bool
shows_internal Csnbcki to = is_none (label_named to)
shows_internal CsnbkgnOp to = is_none (label_named to)
shows_internal CsnbkgnPair to = is_none (label_named to)
shows_internal Csnbkim to = is_none (label_named to)
shows_internal Csnbpex to = is_none (label_named to)
shows_internal CsnbkpiFirst to = is_none (label_named to)
shows_internal CsnbkpiMiddle to = is_none (label_named to)
shows_internal Csnbkrr to = true
shows_internal _ to = false

-- the request gives an internal token, or its reply has one
abbrev pub uses_master_key : Request → Bool
uses_master_key r =
    any_internal_token (listed (operands r)) || shows_internal r.name (value_of r (codes "to"))

-- SET, or REENCIPHER with AHEAD
abbrev pub compares_patterns : RequestName → Bool
compares_patterns CsnbmkpSet = true
compares_patterns ReencipherAhead = true
compares_patterns _ = false

-- the new register is as full in one as in the other, and so is the current one
pub record AreAsFull (m n : Masters) : Type 0 where
  pub coming : state_of m.coming ≡ state_of n.coming
  pub current : is_none m.current ≡ is_none n.current

-- the new master key has the verification pattern of the current one in both or in neither, and the like of
-- the old one
pub record CompareAlike (m n : Masters) : Type 0 where
  pub current : has_pattern_of m.coming m.current ≡ has_pattern_of n.coming n.current
  pub former : has_pattern_of m.coming m.former ≡ has_pattern_of n.coming n.former
