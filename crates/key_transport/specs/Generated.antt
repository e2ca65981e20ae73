-- Generated keys: made of random bytes, with the control vector of their type, and given out as tokens by form.
use Rattle.std.specs.Prelude.{◌≡◌, ℕ, Bool, true, false, List, [], codes, length, map, Option, None, Some, take, unwrap_or, ⊤, if◌then◌else◌}
use Rattle.std.specs.Io.KnownBytes.{Consumes}
use Rattle.std.specs.Str.{bytes_eq}
use Rattle.cca_vectors.specs.declared.key_length.Length.{Length}
use Rattle.cca_vectors.specs.declared.key_type.KeyType.{KeyType}
use Rattle.cca_vectors.specs.Checks.{first_failing}
use Rattle.cca_vectors.specs.DefaultVectors.{default_for, default_vector, size_of}
use Rattle.verb_rules.specs.Parity.{odd_byte}
use Rattle.key_cells.specs.Bench.{Bench}
use Rattle.key_tokens.specs.Denotes.{ClearKey, denoted}
use Rattle.master_registers.specs.Loaded.{Loaded}
use Rattle.master_registers.specs.Masters.{Masters}
use Rattle.master_registers.specs.declared.registers.Registers.{Registers}
use Rattle.verb_rules.specs.Keys.{IsDouble, keys_of, opened}
use Rattle.verb_rules.specs.TypeChecks.{length_checks, size_checks}
use Rattle.verb_rules.specs.declared.judging.Judged.{Judged}
use Rattle.key_transport.specs.UniqueHalves.{key_taken, key_drawn, repeats}
use Rattle.key_transport.specs.Tokens.{as_current, current_token, external_token}
use Rattle.key_transport.specs.declared.generating.Form.{Form}
use Rattle.key_transport.specs.declared.generating.Form.TheVariants.{Op, Opex, Opim, Imex, Exex, Imim}
use Rattle.key_transport.specs.declared.generating.Generated.{Generated}

-- the control vector of a type that has so many bytes
abbrev pub vector_for : KeyType → ℕ → List ℕ
vector_for kind size = unwrap_or (default_vector kind size) []

-- the control vector of a type that has this length
abbrev pub generated_vector : KeyType → Length → List ℕ
generated_vector kind key_length = unwrap_or (default_for kind key_length) []

-- the key of a type and a length that random bytes make: each byte with odd parity by its low-order bit
abbrev pub generated_key : KeyType → Length → List ℕ → ClearKey
generated_key kind key_length drawn = record {
  key = map odd_byte (key_drawn key_length drawn);
  vector = generated_vector kind key_length;
}

-- the form with this name
abbrev pub form_of_name : List ℕ → Option Form
form_of_name text =
    if bytes_eq text (codes "OP") then Some Op
    else if bytes_eq text (codes "OPEX") then Some Opex
    else if bytes_eq text (codes "OPIM") then Some Opim
    else if bytes_eq text (codes "IMEX") then Some Imex
    else if bytes_eq text (codes "EXEX") then Some Exex
    else if bytes_eq text (codes "IMIM") then Some Imim
    else None

-- the first key of a form is internal; else it is external under the first transport key
abbrev pub is_operational : Form → Bool
is_operational Op = true
is_operational Opex = true
is_operational Opim = true
is_operational Imex = false
is_operational Exex = false
is_operational Imim = false

-- the tokens of a form's keys, by its two transport keys: of the second key there is none, or an external one under the
-- second transport key
abbrev pub generated_tokens : Masters → Form → List ℕ → List ℕ → ClearKey → ClearKey → Generated
generated_tokens m Op one two first second = record { first = current_token m first; second = None }
generated_tokens m Opex one two first second = record {
  first = current_token m first;
  second = Some (external_token two second);
}
generated_tokens m Opim one two first second = record {
  first = current_token m first;
  second = Some (external_token two second);
}
generated_tokens m Imex one two first second = record {
  first = external_token one first;
  second = Some (external_token two second);
}
generated_tokens m Exex one two first second = record {
  first = external_token one first;
  second = Some (external_token two second);
}
generated_tokens m Imim one two first second = record {
  first = external_token one first;
  second = Some (external_token two second);
}

-- the transport key of an operand; empty where none is given
abbrev pub transport_key : Bench → Option Judged → List ℕ
transport_key bench None = []
transport_key bench (Some judged) = (opened bench judged).key

-- ---- the conditions

-- a transport key is given
abbrev pub IsGiven : Option Judged → Type 0
IsGiven None = ⊥
IsGiven (Some judged) = IsDouble judged

-- the transport keys of a form are given
abbrev pub AreGiven : Form → Option Judged → Option Judged → Type 0
AreGiven Op one two = ⊤
AreGiven Opex one two = IsGiven two
AreGiven Opim one two = IsGiven two
AreGiven Imex one two = IsGiven one × IsGiven two
AreGiven Exex one two = IsGiven one × IsGiven two
AreGiven Imim one two = IsGiven one × IsGiven two

-- a type has so many bytes: rule 32
abbrev pub HasLength : KeyType → ℕ → Type 0
HasLength kind size = first_failing (size_checks kind size) ≡ None

-- a type has a length: rule 32
abbrev pub HasKeyLength : KeyType → Length → Type 0
HasKeyLength kind key_length = first_failing (length_checks kind key_length) ≡ None

-- the types of a form have the length
abbrev pub HaveLength : Form → KeyType → KeyType → Length → Type 0
HaveLength Op first second key_length = HasKeyLength first key_length
HaveLength Opex first second key_length =
    HasKeyLength first key_length × HasKeyLength second key_length
HaveLength Opim first second key_length =
    HasKeyLength first key_length × HasKeyLength second key_length
HaveLength Imex first second key_length =
    HasKeyLength first key_length × HasKeyLength second key_length
HaveLength Exex first second key_length =
    HasKeyLength first key_length × HasKeyLength second key_length
HaveLength Imim first second key_length =
    HasKeyLength first key_length × HasKeyLength second key_length

-- ---- what is drawn and written

-- the bytes of a random source that a key of this length takes, of which none can be made, or one
pub record Draws (key_length : Length) (before after : Option (List ℕ)) (repeated : Bool)
    : Type 0 where
  pub drawn : List ℕ
  pub size : length drawn ≡ key_taken key_length drawn
  pub consumed : Consumes before after drawn
  pub is_repeated : repeats key_length drawn ≡ repeated

-- the first bytes of a place are those of a key that random bytes make
pub record DrawsBytes (key_length : Length) (before after : Option (List ℕ)) (place : List ℕ)
    : Type 0 where
  pub draw : Draws key_length before after false
  pub bytes : take (size_of key_length) place ≡ key_drawn key_length draw.drawn

-- the first bytes of a place are the key that random bytes make, with odd parity
pub record DrawsKey (key_length : Length) (before after : Option (List ℕ)) (place : List ℕ)
    : Type 0 where
  pub draw : Draws key_length before after false
  pub key : take (size_of key_length) place ≡ map odd_byte (key_drawn key_length draw.drawn)

-- the tokens are those of keys that random bytes make
pub record Generates (held : Registers) (bench : Bench) (form : Form) (key_length : Length)
    (first second : KeyType) (one two : Option Judged)
    (before after : Option (List ℕ)) (result : Generated) : Type 0 where
  pub draw : Draws key_length before after false
  pub tokens : (m : Masters) → Loaded m held bench
      → result ≡ generated_tokens m form (transport_key bench one) (transport_key bench two)
      (generated_key first key_length draw.drawn) (generated_key second key_length draw.drawn)
  pub operational : (m : Masters) → Loaded m held bench → is_operational form ≡ true
      → denoted (keys_of m) result.first
      ≡ Some (as_current (generated_key first key_length draw.drawn))
