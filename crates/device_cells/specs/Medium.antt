-- What a disk is to the layers above: what a read gives, what a stop may leave now, and what a stop at some moment
-- since an earlier one might have left. A disk that doesn't tell has no content and no images, so that what is said of
-- them holds of it with nothing to do.
use Rattle.std.specs.Prelude.{◌≡◌, ◌≤◌, ◌⊎◌, ℕ, List, length, Option, Some, IfSome, IsSome}

pub record Medium : Type 1 where
  -- how many bytes it has
  pub size : ℕ
  -- what a read gives, where the disk tells it
  pub content : Option (List ℕ)
  -- what a stop at this moment may leave
  pub images : List ℕ → Type 0
  -- the moment, as a number that doesn't fall
  pub moment : ℕ
  -- what a stop at some moment from that one on might have left
  pub since : ℕ → List ℕ → Type 0
  pub sized : (c : List ℕ) → content ≡ Some c → length c ≡ size
  pub is_image : (c : List ℕ) → content ≡ Some c → images c
  pub counts_now : (t : ℕ) (c : List ℕ) → t ≤ moment → images c → since t c
  pub only_now : (c : List ℕ) → since moment c → images c

-- where the disk tells its content, P holds of it
abbrev pub Told : Medium → (List ℕ → Type 0) → Type 0
Told m P = IfSome m.content P

-- nothing is unsynced: each image is the content
pub record IsSettled (m : Medium) : Type 0 where
  pub only : (c : List ℕ) → m.images c → m.content ≡ Some c

-- after a step from something that has P
abbrev pub After : (List ℕ → List ℕ → Type 0) → (List ℕ → Type 0) → List ℕ → Type 0
After step P c = (d : List ℕ) × P d × step d c

-- after a step from the content
abbrev pub From : (List ℕ → List ℕ → Type 0) → Medium → List ℕ → Type 0
From step m c = After step (λ d. m.content ≡ Some d) c

-- What is told now is what was told before, after a step. What was told is still told.
pub record Becomes (step : List ℕ → List ℕ → Type 0) (old new : Medium) : Type 0 where
  pub size : new.size ≡ old.size
  pub told : (c : List ℕ) → new.content ≡ Some c → From step old c
  pub still : IsSome old.content → IsSome new.content

-- each image at a moment since old has P
pub record EachImage (old new : Medium) (P : List ℕ → Type 0) : Type 0 where
  pub size : new.size ≡ old.size
  pub later : old.moment ≤ new.moment
  pub each : (c : List ℕ) → new.since old.moment c → P c
  -- for a run that began earlier
  pub before : (t : ℕ) (c : List ℕ) → t ≤ old.moment → new.since t c → old.since t c ⊎ P c
  pub keeps : (t : ℕ) (c : List ℕ) → t ≤ old.moment → old.since t c → new.since t c

-- content and images are as before
pub record Keeps (old new : Medium) : Type 0 where
  pub content : new.content ≡ old.content
  pub images : (c : List ℕ) → new.images c → old.images c
  pub moments : EachImage old new old.images

-- each image of one disk at a moment since then, with each of the other at any such moment
pub record EachPair (old1 new1 old2 new2 : Medium) (P : List ℕ → List ℕ → Type 0) : Type 0 where
  pub later1 : old1.moment ≤ new1.moment
  pub later2 : old2.moment ≤ new2.moment
  pub each : (c d : List ℕ) → new1.since old1.moment c → new2.since old2.moment d → P c d
