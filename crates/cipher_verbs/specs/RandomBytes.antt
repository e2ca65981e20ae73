-- Random bytes, as they are drawn or with a parity.
use Rattle.std.specs.Prelude.{◌≡◌, ℕ, List, codes, length, map, Option, None, Some, if◌then◌else◌}
use Rattle.std.specs.Str.{bytes_eq}
use Rattle.std.specs.Io.KnownBytes.{Consumes}
use Rattle.cca_vectors.specs.Bits.{even_byte}
use Rattle.verb_rules.specs.Parity.{odd_byte}
use Rattle.cipher_verbs.specs.declared.random.RandomForm.{RandomForm}
use Rattle.cipher_verbs.specs.declared.random.RandomForm.TheVariants.{Random, Odd, Even}

-- the form with this name
abbrev pub random_form_of_name : List ℕ → Option RandomForm
random_form_of_name text =
    if bytes_eq text (codes "RANDOM") then Some Random
    else if bytes_eq text (codes "ODD") then Some Odd
    else if bytes_eq text (codes "EVEN") then Some Even
    else None

-- as they are drawn, or with odd or even parity in each byte by its low-order bit
abbrev pub in_form : RandomForm → List ℕ → List ℕ
in_form Random drawn = drawn
in_form Odd drawn = map odd_byte drawn
in_form Even drawn = map even_byte drawn

-- the bytes are the next eight of a source of random bytes, in this form
pub record Draws (form : RandomForm) (before after : Option (List ℕ)) (bytes : List ℕ)
    : Type 0 where
  pub drawn : List ℕ
  pub size : length drawn ≡ 8
  pub consumed : Consumes before after drawn
  pub formed : bytes ≡ in_form form drawn
