-- Tokens of a master key that is neither the current nor the old one.
use Rattle.std.specs.Prelude.{◌≡◌, ◌≢◌, ◌⊎◌, ℕ, List, [], ◌∷◌, ◌++◌, Option, None, Some, codes}
use Rattle.cca_vectors.specs.Checks.{Check}
use Rattle.key_tokens.specs.Denotes.{Denoted}
use Rattle.key_tokens.specs.Fields.{pattern_of_token, vector_bytes_of}
use Rattle.key_tokens.specs.TokenChecks.{token_checks}
use Rattle.master_registers.specs.Masters.{Masters, pattern_of_master}
use Rattle.record_bodies.specs.Entries.{Entry}
use Rattle.record_bodies.specs.RecordBody.{HasToken}
use Rattle.verb_rules.specs.KeyChecks.{part_check}
use Rattle.verb_rules.specs.Keys.{keys_of}
use Rattle.verb_rules.specs.declared.needs.Need.{Need}
use Rattle.verb_script.specs.Grammar.{Request, value_of}
use Rattle.verb_script.specs.Named.{label_named}
use Rattle.verb_script.specs.Values.{hex_value}
use Rattle.verb_script.specs.declared.rows.RequestName.{RequestName}
use Rattle.verb_script.specs.declared.rows.RequestName.TheVariants.{Csnbenc, CsnbencFirst, CsnbencMiddle, CsnbencLast, Csnbdec, CsnbdecFirst, CsnbdecMiddle, CsnbdecLast, Csnbmgn, CsnbmgnFirst, CsnbmgnMiddle, CsnbmgnLast, Csnbmvr, CsnbmvrFirst, CsnbmvrMiddle, CsnbmvrLast, Csnbkyt, Csnbpex, CsnbkpiMiddle, Csnbkex, CsnbkgnPair, CsnbkgnOut, Csnbkim, Csnbktr, Csnbktc, Csnbkrw}
use Rattle.cca_machine.specs.Keys.{key_bytes}

-- the pattern is neither that of the current nor that of the old master key
pub record IsRetired (m : Masters) (pattern : List ℕ) : Type 0 where
  pub current : (master : List ℕ) → m.current ≡ Some master → pattern_of_master master ≢ pattern
  pub old : (master : List ℕ) → m.former ≡ Some master → pattern_of_master master ≢ pattern

-- the token in the text of a key, where that names no label
abbrev pub token_where : Option (List ℕ) → List ℕ → Option (List ℕ)
token_where None text = Some (key_bytes text)
token_where (Some label) text = None

-- the token that a field gives in which a key stands
abbrev pub key_in : Request → List ℕ → Option (List ℕ)
key_in r field = token_where (label_named (value_of r field)) (value_of r field)

-- the token that the field `token` gives
abbrev pub token_in : Request → Option (List ℕ)
token_in r = Some (hex_value (value_of r (codes "token")))

-- the internal tokens that the fields of a request give, each where its field names no label
abbrev pub internal_tokens : RequestName → Request → List (Option (List ℕ))
internal_tokens Csnbenc r = key_in r (codes "key") ∷ []
internal_tokens CsnbencFirst r = key_in r (codes "key") ∷ []
internal_tokens CsnbencMiddle r = key_in r (codes "key") ∷ []
internal_tokens CsnbencLast r = key_in r (codes "key") ∷ []
internal_tokens Csnbdec r = key_in r (codes "key") ∷ []
internal_tokens CsnbdecFirst r = key_in r (codes "key") ∷ []
internal_tokens CsnbdecMiddle r = key_in r (codes "key") ∷ []
internal_tokens CsnbdecLast r = key_in r (codes "key") ∷ []
internal_tokens Csnbmgn r = key_in r (codes "key") ∷ []
internal_tokens CsnbmgnFirst r = key_in r (codes "key") ∷ []
internal_tokens CsnbmgnMiddle r = key_in r (codes "key") ∷ []
internal_tokens CsnbmgnLast r = key_in r (codes "key") ∷ []
internal_tokens Csnbmvr r = key_in r (codes "key") ∷ []
internal_tokens CsnbmvrFirst r = key_in r (codes "key") ∷ []
internal_tokens CsnbmvrMiddle r = key_in r (codes "key") ∷ []
internal_tokens CsnbmvrLast r = key_in r (codes "key") ∷ []
internal_tokens Csnbkyt r = key_in r (codes "key") ∷ []
internal_tokens Csnbpex r = key_in r (codes "key") ∷ []
internal_tokens CsnbkpiMiddle r = key_in r (codes "key") ∷ []
internal_tokens Csnbkex r = key_in r (codes "key") ∷ key_in r (codes "transport") ∷ []
internal_tokens CsnbkgnPair r = key_in r (codes "transport2") ∷ []
internal_tokens CsnbkgnOut r =
    key_in r (codes "transport1") ∷ key_in r (codes "transport2") ∷ []
internal_tokens Csnbkim r = key_in r (codes "transport") ∷ []
internal_tokens Csnbktr r =
    key_in r (codes "transport1") ∷ key_in r (codes "transport2") ∷ []
internal_tokens Csnbktc r = token_in r ∷ []
internal_tokens Csnbkrw r = token_in r ∷ []
internal_tokens _ r = []

-- the token is one of those that are given
abbrev pub IsAmong : List ℕ → List (Option (List ℕ)) → Type 0
IsAmong token [] = ⊥
IsAmong token (given ∷ others) = (given ≡ Some token) ⊎ IsAmong token others

-- the rules that are asked of a token before rule 18: 09 to 17
abbrev pub rules_before : Need → List ℕ → List Check
rules_before need token =
    token_checks need.asked token ++ (part_check need (vector_bytes_of token) ∷ [])

-- the token that a label is under stands in the bytes of its cell, and isn't one of a retired master key
pub record IsUnderKept (m : Masters) (bytes : List ℕ) (e : Entry) (key : Denoted) : Type 0 where
  pub token : List ℕ
  pub stands : HasToken (keys_of m) bytes e.label token key e.ahead e.unused
  pub under : IsRetired m (pattern_of_token token) → ⊥
