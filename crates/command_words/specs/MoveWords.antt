-- The words that ask for a move.
use Rattle.std.specs.Prelude.{◌≡◌, ℕ, List, [], ◌∷◌, codes}
use Rattle.cca_roles.specs.RoleNames.{IsRoleName}
use Rattle.record_bodies.specs.Labels.{IsLabel}
use Rattle.command_words.specs.declared.moves.Move.{Move}

-- `unload`, a role and the label of a transport key, and the same of the other module
pub record AreWordsOf (w : Move) (words : List (List ℕ)) : Type 0 where
  pub are : words ≡ codes "unload" ∷ w.role ∷ w.transport ∷ w.role_there ∷ w.transport_there ∷ []
  pub role : IsRoleName w.role
  pub transport : IsLabel w.transport
  pub role_there : IsRoleName w.role_there
  pub transport_there : IsLabel w.transport_there

-- the words ask for a move
abbrev pub IsMove : List (List ℕ) → Type 0
IsMove words = (w : Move) × AreWordsOf w words
