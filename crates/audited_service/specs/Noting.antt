-- A machine whose states have, beside its own, the entries of the lines that it answered.
use Rattle.std.specs.Prelude.{◌≡◌, ◌⊎◌, ℕ, List, [], ◌∷◌, ◌++◌, length}
use Rattle.device_cells.specs.Medium.{Medium}
use Rattle.audit_trail.specs.TrailStands.{IsTrail}
use Rattle.audit_trail.specs.declared.entries.Entry.{Entry}
use Rattle.line_service.specs.Machine.{Machine, Outcome}
use Rattle.line_service.specs.Serving.{session}

pub record Noted (S : Type 0) : Type 0 where
  pub state : S
  pub entries : List Entry

abbrev pub noted : {S : Type 0} → S → List Entry → Noted S
noted state es = record { state = state; entries = es }

-- a state and its entries, after a line with this outcome
abbrev pub after : {S : Type 0} → List Entry → Entry → S → Noted S
after es e state = record { state = state; entries = es ++ e ∷ [] }

-- the outcome of a line, with its entry noted
abbrev pub with_entry : {S : Type 0} → (List ℕ → List ℕ → Entry) → List Entry → List ℕ → Outcome S
    → Outcome (Noted S)
with_entry entry es line o =
    record { state = after es (entry line o.reply) o.state; reply = o.reply; random = o.random }

-- The machine, with the entry of each line and its reply noted behind those before. All else is as it was.
abbrev pub noting : Machine → (List ℕ → List ℕ → Entry) → Machine
noting A entry = record {
  State = Noted A.State;
  step = λ t random line. with_entry entry t.entries line (A.step t.state random line);
  Refuses = λ t. A.Refuses t.state;
  InModule = λ t. A.InModule t.state;
  InStore = λ t. A.InStore t.state;
  Between = λ t line u. A.Between t.state line u.state × (u.entries ≡ t.entries);
  MayStop = λ stop t. A.MayStop stop t.state;
  HasCell = A.HasCell;
  IsReread = A.IsReread;
  IsBrokenModule = A.IsBrokenModule;
  IsBrokenStore = A.IsBrokenStore;
  module_apart = λ cell c t. A.module_apart cell c t.state;
  store_apart = λ cell c d t. A.store_apart cell c d t.state;
  module_size = A.module_size;
  store_size = A.store_size;
  module_cells = A.module_cells;
  store_cells = A.store_cells;
  ModuleMay = λ t. A.ModuleMay t.state;
  StoreMay = λ t. A.StoreMay t.state;
  module_still = λ t. A.module_still t.state;
  store_still = λ t. A.store_still t.state;
  module_spare = λ t. A.module_spare t.state;
  store_spare = λ t. A.store_spare t.state;
}

-- each image of the trail stands for these entries
abbrev pub Recorded : Medium → List Entry → Type 0
Recorded trail es = (c : List ℕ) → trail.images c → IsTrail c es

-- each stands for these or for those
abbrev pub RecordedEither : Medium → List Entry → List Entry → Type 0
RecordedEither trail es fs = (c : List ℕ) → trail.images c → IsTrail c es ⊎ IsTrail c fs

-- ---- a session of such a machine

-- the entry of each line and of its own reply, in order
abbrev pub entries_of : (A : Machine) → (List ℕ → List ℕ → Entry) → A.State → List ℕ → List (List ℕ)
    → List Entry
entries_of A entry s random [] = []
entries_of A entry s random (line ∷ ls) =
    let now = A.step s random line in
    entry line now.reply ∷ entries_of A entry now.state now.random ls

-- It goes through the states and replies of the machine's own session, and leaves the same random bytes. Behind the
-- entries that were there stands one for each line.
pub record NotesLines (A : Machine) (entry : List ℕ → List ℕ → Entry) (s : A.State)
    (es : List Entry) (random : List ℕ) (ls : List (List ℕ)) : Type 0 where
  pub state : (session (noting A entry) (noted s es) random ls).state.state
      ≡ (session A s random ls).state
  pub reply : (session (noting A entry) (noted s es) random ls).reply
      ≡ (session A s random ls).reply
  pub random_left : (session (noting A entry) (noted s es) random ls).random
      ≡ (session A s random ls).random
  pub entries : (session (noting A entry) (noted s es) random ls).state.entries
      ≡ es ++ entries_of A entry s random ls
  pub each : length (entries_of A entry s random ls) ≡ length ls
