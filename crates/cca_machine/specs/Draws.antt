-- The random bytes that requests draw.
use Rattle.std.specs.Prelude.{ℕ, Bool, true, false, List, codes}
use Rattle.cca_vectors.specs.declared.key_length.Length.{Length}
use Rattle.key_transport.specs.UniqueHalves.{key_taken}
use Rattle.verb_script.specs.Grammar.{Request, value_of}
use Rattle.verb_script.specs.declared.rows.RequestName.{RequestName}
use Rattle.verb_script.specs.declared.rows.RequestName.TheVariants.{CsnbkgnOp, CsnbkgnOut, CsnbkgnPair, Csnbrng}
use Rattle.cca_machine.specs.Choices.{key_length_named}

-- none, eight, or those of a key of a length
pub data Draw : Type 0 where
  NoBytes : Draw
  EightBytes : Draw
  KeyBytes : Length → Draw

-- the length of a request's generated keys
abbrev pub length_in : Request → Length
length_in r = key_length_named (value_of r (codes "length"))

-- what a request draws, where no rule that is asked before refuses it
abbrev pub draw_of : RequestName → Request → Draw
draw_of Csnbrng r = EightBytes
draw_of CsnbkgnOp r = KeyBytes (length_in r)
draw_of CsnbkgnPair r = KeyBytes (length_in r)
draw_of CsnbkgnOut r = KeyBytes (length_in r)
draw_of _ r = NoBytes

-- some are drawn
abbrev pub is_drawing : Draw → Bool
is_drawing NoBytes = false
is_drawing EightBytes = true
is_drawing (KeyBytes key_length) = true

-- a request is one that draws random bytes
abbrev pub draws_random : Request → Bool
draws_random request = is_drawing (draw_of request.name request)

-- how many of the random bytes ahead are drawn
abbrev pub bytes_drawn : Draw → List ℕ → ℕ
bytes_drawn NoBytes ahead = 0
bytes_drawn EightBytes ahead = 8
bytes_drawn (KeyBytes key_length) ahead = key_taken key_length ahead
