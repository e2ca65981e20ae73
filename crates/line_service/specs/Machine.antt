-- A machine that answers lines, over two disks and a list of random bytes.
use Rattle.std.specs.Prelude.{ℕ, List, [], ◌∷◌, ◌++◌, Option}
use Rattle.device_cells.specs.Medium.{Medium}
use Rattle.device_cells.specs.SpareBytes.{SameSpare}
use Rattle.line_service.specs.declared.stops.Device.{Device}
use Rattle.line_service.specs.declared.stops.Stop.{Stop}

-- what a line comes to: the state after it, the bytes of the reply line, and the random bytes that are left
pub record Outcome (S : Type 0) : Type 0 where
  pub state : S
  pub reply : List ℕ
  pub random : List ℕ

-- What comes of lines, one after another, where `step` says what comes of one: the replies, the state after them, and
-- the random bytes that are left.
abbrev pub outcome_of_lines : {S : Type 0} → (S → List ℕ → List ℕ → Outcome S) → S → List ℕ
    → List (List ℕ) → Outcome S
outcome_of_lines step s random [] = record { state = s; reply = []; random = random }
outcome_of_lines step s random (line ∷ ls) =
    let now = step s random line in
    let later = outcome_of_lines step now.state now.random ls in
    record { state = later.state; reply = now.reply ++ later.reply; random = later.random }

pub record Machine : Type 1 where
  pub State : Type 0
  -- what a line comes to, in a state and with some random bytes
  pub step : State → List ℕ → List ℕ → Outcome State
  -- the line is refused from the state, with these random bytes to come
  pub Refuses : State → List ℕ → List ℕ → Type 0
  -- the content of a disk stands for the state
  pub InModule : State → List ℕ → Type 0
  pub InStore : State → List ℕ → Type 0
  -- a state that a stop may leave on the way through a line
  pub Between : State → List ℕ → State → Type 0
  -- a line at which a device may fail
  pub MayStop : Stop → State → List ℕ → Type 0
  -- the disk has a cell with this number
  pub HasCell : Device → ℕ → Type 0
  -- a line may have this cell read again, so that it may turn out damaged
  pub IsReread : Device → ℕ → Type 0
  -- this cell is the first that reads as nothing, of a module with this content
  pub IsBrokenModule : ℕ → List ℕ → Type 0
  -- this cell is the first that reads as nothing, of a store beside a module with these contents
  pub IsBrokenStore : ℕ → List ℕ → List ℕ → Type 0
  -- what is broken stands for no state
  pub module_apart : (cell : ℕ) (c : List ℕ) (s : State) → IsBrokenModule cell c → InModule s c → ⊥
  pub store_apart : (cell : ℕ) (c d : List ℕ) (s : State) → IsBrokenStore cell c d → InModule s c
      → InStore s d → ⊥
  -- in bytes
  pub module_size : ℕ
  pub store_size : ℕ
  -- how many cells of a disk lines may change
  pub module_cells : ℕ
  pub store_cells : ℕ
  -- what a stop on the way through a line may leave of a disk, from the content before the line
  pub ModuleMay : State → List ℕ → List ℕ → List ℕ → Type 0
  pub StoreMay : State → List ℕ → List ℕ → List ℕ → Type 0
  pub module_still : (s : State) (line image : List ℕ) → ModuleMay s line image image
  pub store_still : (s : State) (line image : List ℕ) → StoreMay s line image image
  -- no byte outside selectors and bodies changes then
  pub module_spare : (s : State) (line old new : List ℕ) → ModuleMay s line old new
      → SameSpare old new
  pub store_spare : (s : State) (line old new : List ℕ) → StoreMay s line old new
      → SameSpare old new

-- the devices behind a machine at a moment
pub record World : Type 1 where
  pub module_ : Medium
  pub store : Medium
  -- the random bytes still to come, where they are told
  pub random : Option (List ℕ)

abbrev pub world : Medium → Medium → Option (List ℕ) → World
world m d e = record { module_ = m; store = d; random = e }
