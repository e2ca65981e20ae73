-- What lines leave of the bytes of a disk that no state looks at.
use Rattle.std.proofs.Common.{◌≡◌, ◌<◌, inl, inr, ⊎_elim, ℕ, ◌+◌, ◌-◌, ◌*◌, ◌%◌, min, List, ◌++◌, length, get_or, slice_range, Option, Some, refl, sym, ◌∙◌, ap, subst, arith}
use Rattle.std.specs.Prelude.{◌⊎◌}
use Rattle.std.proofs.lemmas.Grind.{same_number_lists}
use Rattle.device_cells.specs.Cells.{selected, body_place, body_at, other_body}
use Rattle.device_cells.specs.Medium.{Medium, IsSettled, From, Becomes, EachImage}
use Rattle.device_cells.specs.SpareBytes.{SameSpare, SameCell, HasTurned, Turned}
use Rattle.device_cells.proofs.CellSteps.{length-range, get_or-range}
use Rattle.device_cells.proofs.Media.{becomes_same, becomes_then, each_weaker, each_still, from_then, goes_on}
use Rattle.device_cells.proofs.SpareLemmas.{same_spare, same_spare_then, turned_same}
use Rattle.line_service.specs.Lines.{lines}
use Rattle.line_service.specs.Machine.{Machine, World}
use Rattle.line_service.specs.Answering.{Holds, OnDisks, WritesWithin, Turns}
use Rattle.line_service.specs.Serving.{Leads, KeepsSpare, WasSelected, Rests, AtRest, SparesAlways}

-- ---- bytes

pub same_byte : (p q : ℕ) (old new : List ℕ) → p ≡ q → get_or new p 0 ≡ get_or old p 0
    → get_or new q 0 ≡ get_or old q 0
same_byte p q old new is same = subst (λ k. get_or new k 0 ≡ get_or old k 0) is same

module _ (n : ℕ) (old new : List ℕ) (same : SameCell n old new) where
  -- a cell that has all its bytes as they were has the same selector and the same bodies
  pub same_selector : get_or new (1536 * n) 0 ≡ get_or old (1536 * n) 0
  same_selector = same_byte (1536 * n + 0) (1536 * n) old new (omega arith) (same 0 (omega arith))

  pub same_side : (side : ℕ) → side < 2 → length new ≡ length old → body_at new n side ≡ body_at old n side
  same_side side low long =
      let place = body_place n side in
      same_number_lists (slice_range new place (place + 192)) (slice_range old place (place + 192))
      (length-range new place 192 ∙ ap (λ (l : ℕ). min 192 (l - place)) long ∙ sym (length-range old place 192))
      (λ k inside.
      let below : k < 192 = omega (arith, length-range new place 192) in
      let here = same (512 * (1 + side) + k) (omega arith) in
      get_or-range new place 192 k below
      ∙ same_byte (1536 * n + (512 * (1 + side) + k)) (place + k) old new (omega arith) here
      ∙ sym (get_or-range old place 192 k below))

  pub same_other : length new ≡ length old → other_body new n ≡ other_body old n
  unfolding other_body selected
  same_other long =
      ap (λ (b : ℕ). body_at new n (1 - b % 2)) same_selector
      ∙ same_side (1 - get_or old (1536 * n) 0 % 2) (omega arith) long

-- ---- media

-- of a disk with nothing unsynced each image is its content
pub still_from : (m : Medium) (step : List ℕ → List ℕ → Type 0) → ((c : List ℕ) → step c c) → IsSettled m → EachImage m m (From step m)
still_from m step still settled =
    each_weaker m m m.images _ (each_still m) (λ c image. (c, settled.only c image, still c))

pub told_of : (m : Medium) (P : List ℕ → Type 0) → Holds m P → (c : List ℕ) → m.content ≡ Some c → P c
told_of m P holds c is = let same : holds.image ≡ c = cc (holds.told, is) in subst P same holds.has

-- ---- one line

pub turns_still : (A : Machine) (w : World) → Turns A w w
turns_still A w = record {
  on_module = becomes_same w.module_ w.module_ _ refl refl (turned_same A.module_cells);
  on_store = becomes_same w.store w.store _ refl refl (turned_same A.store_cells);
}

pub within_still : (A : Machine) (s : A.State) (line : List ℕ) (w : World) → IsSettled w.module_ → IsSettled w.store → WritesWithin A s line w w
within_still A s line w m d = record {
  on_module = still_from w.module_ (A.ModuleMay s line) (A.module_still s line) m;
  on_store = still_from w.store (A.StoreMay s line) (A.store_still s line) d;
}

pub spare_still : (w : World) → IsSettled w.module_ → IsSettled w.store → KeepsSpare w w
spare_still w m d = record {
  on_module = still_from w.module_ SameSpare same_spare m;
  on_store = still_from w.store SameSpare same_spare d;
}

pub from_weaker : (m : Medium) (step wider : List ℕ → List ℕ → Type 0) → ((b c : List ℕ) → step b c → wider b c) → (c : List ℕ) → From step m c → From wider m c
from_weaker m step wider weaker c from = (from.0, from.1, weaker from.0 c from.2)

pub within_spare : (A : Machine) (s : A.State) (line : List ℕ) (old new : World) → WritesWithin A s line old new → KeepsSpare old new
within_spare A s line old new within = record {
  on_module = each_weaker old.module_ new.module_ _ _ within.on_module (from_weaker old.module_ _ _ (A.module_spare s line));
  on_store = each_weaker old.store new.store _ _ within.on_store (from_weaker old.store _ _ (A.store_spare s line));
}

-- ---- many lines

-- so far each image has the spare bytes of the start, and so has what the disks tell now
pub record SparesSo (old new : World) : Type 0 where
  pub always : KeepsSpare old new
  pub on_module : Becomes SameSpare old.module_ new.module_
  pub on_store : Becomes SameSpare old.store new.store

pub spares_nothing : (w : World) → IsSettled w.module_ → IsSettled w.store → SparesSo w w
spares_nothing w m d = record {
  always = spare_still w m d;
  on_module = becomes_same w.module_ w.module_ SameSpare refl refl same_spare;
  on_store = becomes_same w.store w.store SameSpare refl refl same_spare;
}

pub spare_on : (m0 m1 m2 : Medium) → EachImage m0 m1 (From SameSpare m0) → Becomes SameSpare m0 m1 → EachImage m1 m2 (From SameSpare m1) → EachImage m0 m2 (From SameSpare m0)
spare_on m0 m1 m2 one became two =
    goes_on m0 m1 m2 _ _ _ one two (λ c from. from) (from_then m0 m1 SameSpare SameSpare SameSpare became same_spare_then)

pub spares_last : (w0 w w1 : World) → SparesSo w0 w → KeepsSpare w w1 → KeepsSpare w0 w1
spares_last w0 w w1 so line = record {
  on_module = spare_on w0.module_ w.module_ w1.module_ so.always.on_module so.on_module line.on_module;
  on_store = spare_on w0.store w.store w1.store so.always.on_store so.on_store line.on_store;
}

pub spares_more : (A : Machine) (w0 w w1 : World) → SparesSo w0 w → KeepsSpare w w1 → Turns A w w1 → SparesSo w0 w1
spares_more A w0 w w1 so line turns = record {
  always = spares_last w0 w w1 so line;
  on_module = becomes_then w0.module_ w.module_ w1.module_ SameSpare (Turned A.module_cells) SameSpare so.on_module turns.on_module
      (λ a b c one two. same_spare_then a b c one two.same);
  on_store = becomes_then w0.store w.store w1.store SameSpare (Turned A.store_cells) SameSpare so.on_store turns.on_store
      (λ a b c one two. same_spare_then a b c one two.same);
}

pub always_weaker : (m0 m1 : Medium) → EachImage m0 m1 (From SameSpare m0) → EachImage m0 m1 (λ c. m0.images c ⊎ From SameSpare m0 c)
always_weaker m0 m1 each = each_weaker m0 m1 _ _ each (λ c from. inr from)

pub spares_always : (w0 w1 : World) → KeepsSpare w0 w1 → SparesAlways w0 w1
spares_always w0 w1 keeps = record {
  on_module = always_weaker w0.module_ w1.module_ keeps.on_module;
  on_store = always_weaker w0.store w1.store keeps.on_store;
}

module _ (A : Machine) (In : A.State → List ℕ → Type 0) (cells : ℕ) (s : A.State) (random : Option (List ℕ)) (ls : List (List ℕ)) where
  -- cell n is as it was, or its body that isn't selected was selected once
  abbrev pub RestsIn : ℕ → List ℕ → List ℕ → Type 0
  RestsIn n old new = SameCell n old new ⊎ ((get_or new (1536 * n) 0 < 2) × WasSelected A In s random ls n (other_body new n))

  pub rests_none : (c : List ℕ) → Rests A In cells s random ls c c
  rests_none c = record { same = same_spare c; each = λ n below. inl (λ k within. refl) }

  -- the content b stands for a state that some first lines lead to
  module _ (first others : List (List ℕ)) (lines_are : ls ≡ first ++ others) (state : A.State) (sent : List ℕ) (leads : Leads A s random first state sent) where
    pub rests_on : (a b c : List ℕ) → In state b → Rests A In cells s random ls a b → Turned cells b c → Rests A In cells s random ls a c
    rests_on a b c stands one two = record {
      same = same_spare_then a b c one.same two.same;
      each = λ n below. ⊎_elim (λ still. as_before n still (one.each n below)) (λ turned. has_turned n turned) (two.cells n below);
    }
      where
        as_before : (n : ℕ) → SameCell n b c → RestsIn n a b → RestsIn n a c
        as_before n still (inl before) = inl (λ k within. still k within ∙ before k within)
        as_before n still (inr was) = inr (
          subst (λ (x : ℕ). x < 2) (sym (same_selector n b c still)) was.0,
          subst (λ (bytes : List ℕ). WasSelected A In s random ls n bytes) (sym (same_other n b c still two.same.size)) was.1,
        )

        has_turned : (n : ℕ) → HasTurned n b c → RestsIn n a c
        has_turned n turned = inr (
          turned.0,
          record {
            first = first;
            others = others;
            lines_are = lines_are;
            state = state;
            sent = sent;
            leads = leads;
            content = b;
            stands = stands;
            is = sym turned.1;
          },
        )

    pub rests_more : (m0 m m1 : Medium) → Holds m (In state) → Becomes (Rests A In cells s random ls) m0 m → Becomes (Turned cells) m m1
        → Becomes (Rests A In cells s random ls) m0 m1
    rests_more m0 m m1 holds one two = record {
      size = two.size ∙ one.size;
      told = λ d is.
          let from = two.told d is in
          let was = one.told from.0 from.1 in
          (was.0, was.1, rests_on was.0 from.0 d (told_of m (In state) holds from.0 from.1) was.2 from.2);
      still = λ some. two.still (one.still some);
    }

  pub rests_nothing : (m : Medium) → Becomes (Rests A In cells s random ls) m m
  rests_nothing m = becomes_same m m _ refl refl rests_none

pub at_rest_nothing : (A : Machine) (s : A.State) (random : Option (List ℕ)) (input : List ℕ) (w : World) → AtRest A s random input w w
at_rest_nothing A s random input w = record {
  on_module = rests_nothing A A.InModule A.module_cells s random (lines input) w.module_;
  on_store = rests_nothing A A.InStore A.store_cells s random (lines input) w.store;
}

pub at_rest_more : (A : Machine) (s : A.State) (random : Option (List ℕ)) (input : List ℕ) (first others : List (List ℕ)) → lines input ≡ first ++ others
    → (state : A.State) (sent : List ℕ) → Leads A s random first state sent → (w0 w w1 : World) → OnDisks A state w.module_ w.store
    → AtRest A s random input w0 w → Turns A w w1 → AtRest A s random input w0 w1
at_rest_more A s random input first others lines_are state sent leads w0 w w1 disks one two = record {
  on_module = rests_more A A.InModule A.module_cells s random (lines input) first others lines_are state sent leads
      w0.module_ w.module_ w1.module_ disks.in_module one.on_module two.on_module;
  on_store = rests_more A A.InStore A.store_cells s random (lines input) first others lines_are state sent leads
      w0.store w.store w1.store disks.in_store one.on_store two.on_store;
}
