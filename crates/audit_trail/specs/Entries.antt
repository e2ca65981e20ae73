-- What a record says of a line.
use Rattle.std.specs.Prelude.{◌≡◌, ◌⊎◌, ℕ, ◌-◌, ◌<◌, ◌≤◌, List, [], ◌++◌, length, replicate, get_or}
use Rattle.std.specs.List.{AllPass}
use Rattle.cca_roles.specs.Characters.{is_letter}
use Rattle.cca_roles.specs.Names.{IsLabel, IsRoleName}
use Rattle.audit_trail.specs.declared.entries.Entry.{Entry}

-- a text filled with zeros to this length
abbrev pub filled : ℕ → List ℕ → List ℕ
filled n text = text ++ replicate (n - length text) 0

-- 1 to 10 letters
pub record IsVerb (word : List ℕ) : Type 0 where
  pub some : 0 < length word
  pub most : length word ≤ 10
  pub letters : AllPass is_letter word

-- zeros, or a text of this kind filled with zeros
abbrev pub HoldsText : ℕ → (List ℕ → Type 0) → List ℕ → Type 0
HoldsText n IsText field =
    (field ≡ replicate n 0) ⊎ ((text : List ℕ) × IsText text × (field ≡ filled n text))

-- zeros where the length is 0, or a label of this length filled with zeros
abbrev pub HoldsLabel : ℕ → List ℕ → Type 0
HoldsLabel n field =
    ((n ≡ 0) × (field ≡ replicate 64 0))
    ⊎ ((text : List ℕ) × IsLabel text × (n ≡ length text) × (field ≡ filled 64 text))

-- the fields have the forms that a record asks of them
pub record IsEntry (e : Entry) : Type 0 where
  pub rule : e.rule < 100
  pub role : HoldsText 8 IsRoleName e.role
  pub verb : HoldsText 10 IsVerb e.verb
  pub label : HoldsLabel e.label_length e.label

abbrev pub no_entry : Entry
no_entry = record { rule = 0; role = []; verb = []; label = []; label_length = 0 }

-- the entry of a number, in a list that begins with number 0
abbrev pub entry_at : List Entry → ℕ → Entry
entry_at es m = get_or es m no_entry
