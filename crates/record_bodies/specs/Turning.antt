-- What SET makes of the labels of a store, whose bytes it doesn't touch.
use Rattle.std.specs.Prelude.{ℕ, Bool, true, false, List, Option, None, Some, map, option_map}
use Rattle.key_tokens.specs.Denotes.{Denoted, MasterKeys}
use Rattle.key_tokens.specs.declared.key_token.Age.TheVariants.{Current, Old}
use Rattle.record_bodies.specs.Entries.{Entry}
use Rattle.record_bodies.specs.Written.{token_bytes}

-- a label that is ahead becomes current, and every other age becomes old
abbrev pub aged_key : Option Denoted → Bool → Option Denoted
aged_key None ahead = None
aged_key (Some d) false = Some (record { clear = d.clear; age = Old })
aged_key (Some d) true = Some (record { clear = d.clear; age = Current })

-- the first token of a label that is ahead, which was under the current master key
abbrev pub unused_by : MasterKeys → Entry → Bool → Option (List ℕ)
unused_by masters e false = e.unused
unused_by masters e true = option_map (λ d. token_bytes masters.current d.clear) e.what

-- and none is ahead
abbrev pub aged_entry : MasterKeys → Option Entry → Option Entry
aged_entry masters None = None
aged_entry masters (Some e) = Some (record {
  label = e.label;
  what = aged_key e.what e.ahead;
  ahead = false;
  unused = unused_by masters e e.ahead;
})

-- the labels after SET, by the master keys before it
abbrev pub aged : MasterKeys → List (Option Entry) → List (Option Entry)
aged masters labels = map (aged_entry masters) labels

-- the master keys after SET: current moves to old, new moves to current, and new is empty
abbrev pub after_turn : MasterKeys → MasterKeys
after_turn masters = record { current = masters.coming; former = masters.current; coming = None }
