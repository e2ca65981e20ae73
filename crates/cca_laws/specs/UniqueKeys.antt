-- Keys that are generated with halves that are guaranteed unique.
use Rattle.std.specs.Prelude.{◌≡◌, ℕ, Bool, true, false, List, drop, take}
use Rattle.key_transport.specs.UniqueHalves.{is_same_half}
use Rattle.verb_script.specs.declared.rows.RequestName.{RequestName}
use Rattle.verb_script.specs.declared.rows.RequestName.TheVariants.{CsnbkgnOp, CsnbkgnPair, CsnbkgnOut}

-- the request generates one key, or two
abbrev pub generates : RequestName → Bool
generates CsnbkgnOp = true
generates CsnbkgnPair = true
generates CsnbkgnOut = true
generates _ = false

-- the two halves of a key differ, the low-order bit of each byte aside
abbrev pub HasUniqueHalves : List ℕ → Type 0
HasUniqueHalves key = is_same_half (take 8 key) (drop 8 key) ≡ false
