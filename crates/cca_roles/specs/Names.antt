-- Labels of keys, and names of roles.
use Rattle.std.specs.Prelude.{ℕ, nat_le, Bool, false, ◌&&◌, ◌||◌, not, ◌==◌, List, [], ◌∷◌, length, IsTrue}
use Rattle.std.specs.List.{list_all}
use Rattle.cca_roles.specs.Characters.{is_letter, is_digit, is_label_byte}

-- ---- labels

-- the first one is no digit and no period
abbrev pub starts_label : List ℕ → Bool
starts_label [] = false
starts_label (c ∷ cs) = not (is_digit c || c == 0x2e)

-- 1 to 64 characters that may stand in a label
unfoldable pub is_label : List ℕ → Bool
is_label text = starts_label text && nat_le (length text) 64 && list_all is_label_byte text

abbrev pub IsLabel : List ℕ → Type 0
IsLabel text = IsTrue (is_label text)

-- ---- names of roles

-- A to Z and 0 to 9
abbrev pub is_name_byte : ℕ → Bool
is_name_byte c = is_letter c || is_digit c

abbrev pub starts_name : List ℕ → Bool
starts_name [] = false
starts_name (c ∷ cs) = is_letter c

-- 1 to 8 of these, of which the first is a letter
unfoldable pub is_role_name : List ℕ → Bool
is_role_name text = starts_name text && nat_le (length text) 8 && list_all is_name_byte text

abbrev pub IsRoleName : List ℕ → Type 0
IsRoleName text = IsTrue (is_role_name text)
