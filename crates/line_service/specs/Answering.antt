-- What answering one line leaves.
use Rattle.std.specs.Prelude.{◌≡◌, ◌⊎◌, ℕ, List, [], ◌++◌, Some, Result, Err, OnOk, IfErr}
use Rattle.std.specs.Io.KnownBytes.{Consumes}
use Rattle.device_cells.specs.Medium.{Medium, Told, From, Becomes, EachImage, EachPair}
use Rattle.device_cells.specs.SpareBytes.{Turned}
use Rattle.line_service.specs.Machine.{Machine, World}
use Rattle.line_service.specs.Stops.{IsLineStop}
use Rattle.line_service.specs.declared.stops.Stop.{Stop}
use Rattle.line_service.specs.declared.stops.Stop.TheVariants.{EntropyFault}

-- a disk tells its content, which has P
pub record Holds (m : Medium) (P : List ℕ → Type 0) : Type 0 where
  pub image : List ℕ
  pub told : m.content ≡ Some image
  pub has : P image

-- both disks tell their contents, which stand for the state
pub record OnDisks (A : Machine) (s : A.State) (m d : Medium) : Type 0 where
  pub in_module : Holds m (A.InModule s)
  pub in_store : Holds d (A.InStore s)

-- and memory, which agrees with the states that have K, agrees with it
pub record Stands (A : Machine) (s : A.State) (K : A.State → Type 0) (m d : Medium) : Type 0 where
  pub disks : OnDisks A s m d
  pub agrees : K s

-- what the disks tell stands for some state
pub record IsSound (A : Machine) (m d : Medium) : Type 0 where
  pub in_module : Told m (λ c. (s : A.State) × A.InModule s c)
  pub in_both : Told m (λ c. Told d (λ e. (s : A.State) × A.InModule s c × A.InStore s e))

-- The line leads from one state to the next with this reply. It takes these random bytes, whatever follows them.
abbrev pub Steps : (A : Machine) → A.State → List ℕ → List ℕ → A.State → List ℕ → Type 0
Steps A s line drawn next reply =
    (rest : List ℕ)
    → A.step s (drawn ++ rest) line ≡ record { state = next; reply = reply; random = rest }

-- P holds of the state before a line or after it, or of one between
abbrev pub Around : (A : Machine) → A.State → List ℕ → A.State → (A.State → Type 0) → Type 0
Around A s line next P = P s ⊎ (P next ⊎ ((t : A.State) × A.Between s line t × P t))

-- a content of the module and one of the store stand for the same state
abbrev pub Both : (A : Machine) → List ℕ → List ℕ → A.State → Type 0
Both A c d t = A.InModule t c × A.InStore t d

-- nothing was written: a stop at any moment leaves what it could leave before
pub record Unwritten (old new : World) : Type 0 where
  pub on_module : EachImage old.module_ new.module_ old.module_.images
  pub on_store : EachImage old.store new.store old.store.images

-- a stop at any moment leaves what stands for the state
pub record Stays (A : Machine) (s : A.State) (old new : World) : Type 0 where
  pub on_module : EachImage old.module_ new.module_ (A.InModule s)
  pub on_store : EachImage old.store new.store (A.InStore s)

-- The line was carried out, or a device failed on the way. Each image of a disk at a moment of the call, and each
-- pair of them, stands for the state before the line or after it, or for one between.
pub record Moves (A : Machine) (s : A.State) (K : A.State → Type 0) (line : List ℕ)
    (result : Result (Unit {0}) Stop) (reply : List ℕ) (old new : World) : Type 0 where
  pub drawn : List ℕ
  pub next : A.State
  pub answer : List ℕ
  pub steps : Steps A s line drawn next answer
  pub consumed : Consumes old.random new.random drawn
  pub reply_is : OnOk result (reply ≡ answer)
  pub stands : OnOk result (Stands A next K new.module_ new.store)
  pub on_module : EachImage old.module_ new.module_
      (λ c. Around A s line next (λ t. A.InModule t c))
  pub on_store : EachImage old.store new.store (λ d. Around A s line next (λ t. A.InStore t d))
  pub pairs : EachPair old.module_ new.module_ old.store new.store
      (λ c d. Around A s line next (Both A c d))
  pub unwritten : A.Refuses s drawn line → Unwritten old new

-- each image of a disk at a moment is one that a stop on the way through the line may leave
pub record WritesWithin (A : Machine) (s : A.State) (line : List ℕ) (old new : World)
    : Type 0 where
  pub on_module : EachImage old.module_ new.module_ (From (A.ModuleMay s line) old.module_)
  pub on_store : EachImage old.store new.store (From (A.StoreMay s line) old.store)

-- In each cell that has changed the body that was selected stands on the other side, and the selector is 0 or 1. No
-- byte outside selectors and bodies has changed.
pub record Turns (A : Machine) (old new : World) : Type 0 where
  pub on_module : Becomes (Turned A.module_cells) old.module_ new.module_
  pub on_store : Becomes (Turned A.store_cells) old.store new.store

-- What answering a line leaves, from the state s. Memory then agrees with the states that have K.
pub record Serves (A : Machine) (s : A.State) (K : A.State → Type 0) (line : List ℕ)
    (result : Result (Unit {0}) Stop) (reply : List ℕ) (old new : World) : Type 0 where
  pub served : Moves A s K line result reply old new ⊎ (OnOk result ⊥ × Stays A s old new)
  pub stops : IfErr result (λ stop. IsLineStop stop × A.MayStop stop s line)
  pub undrawn : result ≡ Err EntropyFault → Stays A s old new
  -- no random byte is needed to refuse it
  pub unwritten : A.Refuses s [] line → Unwritten old new
  pub within : WritesWithin A s line old new
  pub turns : OnOk result (Turns A old new)
