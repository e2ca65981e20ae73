-- What a request delivers: a key in the record of a label, or a key token in its reply.
use Rattle.std.specs.Prelude.{◌≡◌, ℕ, List, ◌∷◌, codes, Option, None, Some}
use Rattle.key_tokens.specs.Denotes.{ClearKey, DenotesUnder, IsTokenOf, MasterKey}
use Rattle.key_tokens.specs.declared.key_token.Kind.TheVariants.{Internal}
use Rattle.key_transport.specs.Tokens.{as_current}
use Rattle.line_service.specs.Replies.{Done, Field, Hex, Reply}
use Rattle.verb_rules.specs.Keys.{keys_of}
use Rattle.verb_script.specs.Grammar.{AreValues, Request, row_of}
use Rattle.cca_machine.specs.Act.{Outcome}
use Rattle.cca_machine.specs.Keys.{key_of_label}
use Rattle.cca_machine.specs.State.{State, IsStoreOf}
use Rattle.cca_machine.specs.Verdict.{verdict}
use Rattle.cca_laws.specs.ReplyTokens.{EachToken}

-- a line may spell the request, a store represents the labels, and no rule refuses the request
pub record IsPerformed (s : State) (drawn : List ℕ) (r : Request) : Type 0 where
  pub spelled : AreValues (row_of r.name).fields r.values
  pub store : List ℕ
  pub stands : IsStoreOf s store
  pub permitted : verdict s drawn r ≡ None

-- what the key of a token is enciphered under
pub data Under : Type 0 where
  -- the master key of a register
  Master : Option MasterKey → Under
  -- a transport key
  Transport : List ℕ → Under

-- the bytes are a token with this key and control vector, enciphered under this
abbrev pub IsTokenUnder : Under → ClearKey → List ℕ → Type 0
IsTokenUnder (Master register) clear bytes =
    (master : MasterKey) × (register ≡ Some master)
    × IsTokenOf Internal master.pattern master.key bytes clear
IsTokenUnder (Transport key) clear bytes = DenotesUnder key bytes clear

-- the reply has one token, in the field `token`, and P holds of it
pub record RepliesToken (P : List ℕ → Type 0) (reply : Reply) : Type 0 where
  pub token : List ℕ
  pub others : List Field
  pub first : reply ≡ Done (Hex (codes "token") token ∷ others)
  pub alone : EachToken (λ _. ⊥) others
  pub has : P token

-- a key is in the record of the label, under the current master key, or where none is named in the token of the reply,
-- under that of these registers
abbrev pub IsDelivered : State → Option (List ℕ) → ClearKey → Outcome → Type 0
IsDelivered s None clear o =
    RepliesToken (IsTokenUnder (Master (keys_of s.registers).current) clear) o.reply
IsDelivered s (Some label) clear o = key_of_label o.state label ≡ Some (as_current clear)
