-- Fields that hold some of the words of a choice.
use Rattle.std.specs.Prelude.{ℕ, List, [], ◌∷◌, codes, IsTrue}
use Rattle.verb_script.specs.Grammar.{accepts, one_of}

-- the form of two generated keys of which the first is used here
abbrev pub IsPairForm : List ℕ → Type 0
IsPairForm text = IsTrue (accepts (one_of (codes "OPEX" ∷ codes "OPIM" ∷ [])) text)

-- the form of two generated keys that are both used elsewhere
abbrev pub IsOutForm : List ℕ → Type 0
IsOutForm text = IsTrue (accepts (one_of (codes "IMEX" ∷ codes "EXEX" ∷ codes "IMIM" ∷ [])) text)

-- an action that takes a part of a master key
abbrev pub IsPartAction : List ℕ → Type 0
IsPartAction text = IsTrue (accepts (one_of (codes "FIRST" ∷ codes "MIDDLE" ∷ codes "LAST" ∷ [])) text)
