-- How clauses on media are carried over calls, over loops and over two disks.
use Rattle.std.proofs.Common.{◌≡◌, inl, inr, ⊎_elim, ℕ, List, Option, None, Some, IfSome, IsSome, refl, sym, ◌∙◌, subst, arith}
use Rattle.std.proofs.lemmas.Option.{same_Some}
use Rattle.device_cells.specs.Medium.{Medium, Told, IsSettled, After, From, Becomes, EachImage, Keeps, EachPair}

-- ---- what is told

-- a fact on what is told, from one on each content
pub told_from : (content : Option (List ℕ)) (P : List ℕ → Type 0) → ((c : List ℕ) → content ≡ Some c → P c) → IfSome content P
told_from None P each = tt
told_from (Some c) P each = each c refl

pub told_at : (content : Option (List ℕ)) (P : List ℕ → Type 0) (c : List ℕ) → content ≡ Some c → IfSome content P → P c
told_at content P c is told = subst (λ (o : Option (List ℕ)). IfSome o P) is told

pub told_map : (m : Medium) (P Q : List ℕ → Type 0) → Told m P → ((c : List ℕ) → P c → Q c) → Told m Q
told_map m P Q told weaker = told_from m.content Q (λ c is. weaker c (told_at m.content P c is told))

-- what is told by two facts together
pub told_joined : (m : Medium) (P Q R : List ℕ → Type 0) → Told m P → Told m Q → ((c : List ℕ) → P c → Q c → R c) → Told m R
told_joined m P Q R first second both = told_from m.content R (λ c is. both c (told_at m.content P c is first) (told_at m.content Q c is second))

-- what was told of a disk is told of it after calls that keep it
pub told_still : (m0 m1 : Medium) (P : List ℕ → Type 0) → Keeps m0 m1 → Told m0 P → Told m1 P
told_still m0 m1 P keeps told = told_from m1.content P (λ c is. told_at m0.content P c (sym keeps.content ∙ is) told)

-- what is told of a disk that was read, with what was told before
pub told_next : (m0 m1 : Medium) (P Q R : List ℕ → Type 0) → Keeps m0 m1 → Told m0 P → Told m1 Q → ((c : List ℕ) → P c → Q c → R c) → Told m0 R
told_next m0 m1 P Q R keeps before then both = told_from m0.content R (λ c is. both c (told_at m0.content P c is before) (told_at m1.content Q c (keeps.content ∙ is) then))

-- disks with the same content tell the same
pub told_earlier : (m0 m1 : Medium) (P : List ℕ → Type 0) → m1.content ≡ m0.content → Told m1 P → Told m0 P
told_earlier m0 m1 P same told = told_from m0.content P (λ c is. told_at m1.content P c (same ∙ is) told)

pub told_after : (m0 m1 : Medium) (P : List ℕ → Type 0) → m1.content ≡ m0.content → Told m0 P → Told m1 P
told_after m0 m1 P same told = told_earlier m1 m0 P (sym same) told

-- a disk that tells its content after a step told it before
pub told_before : (step : List ℕ → List ℕ → Type 0) (m0 m1 : Medium) → Becomes step m0 m1
    → IsSome m1.content → IsSome m0.content
told_before step m0 m1 becomes = by_content m1.content refl
  where
    by_content : (content : Option (List ℕ)) → m1.content ≡ content → IsSome content → IsSome m0.content
    by_content None is some = cc some
    by_content (Some c) is some = let from = becomes.told c is in subst IsSome (sym from.1) refl

module _ (m0 m1 : Medium) where
  -- what is told after a step
  pub becomes_told : (step : List ℕ → List ℕ → Type 0) (P Q : List ℕ → Type 0) → Becomes step m0 m1 → Told m0 P → ((d c : List ℕ) → P d → step d c → Q c) → Told m1 Q
  becomes_told step P Q becomes told weaker = told_from m1.content Q (λ c is.
      let from = becomes.told c is in
      weaker from.0 c (told_at m0.content P from.0 from.1 told) from.2)

  pub becomes_weaker : (one two : List ℕ → List ℕ → Type 0) → Becomes one m0 m1 → ((b c : List ℕ) → one b c → two b c) → Becomes two m0 m1
  becomes_weaker one two becomes weaker = record {
    size = becomes.size;
    told = λ c is. let from = becomes.told c is in (from.0, from.1, weaker from.0 c from.2);
    still = becomes.still;
  }

  -- two steps from one content
  pub becomes_both : (one two : List ℕ → List ℕ → Type 0) → Becomes one m0 m1 → Becomes two m0 m1 → Becomes (λ b c. one b c × two b c) m0 m1
  becomes_both one two first second = record {
    size = first.size;
    told = λ c is.
        let a = first.told c is in
        let b = second.told c is in
        let same : b.0 ≡ a.0 = same_Some b.0 a.0 (sym b.1 ∙ a.1) in
        (a.0, a.1, (a.2, subst (λ d. two d c) same b.2));
    still = first.still;
  }

  -- a disk that gives the same as before
  pub becomes_same : (step : List ℕ → List ℕ → Type 0) → m1.size ≡ m0.size → m1.content ≡ m0.content → ((c : List ℕ) → step c c) → Becomes step m0 m1
  becomes_same step size same reflexive = record {
    size = size;
    told = λ c is. (c, sym same ∙ is, reflexive c);
    still = λ some. subst (λ (o : Option (List ℕ)). IsSome o) (sym same) some;
  }

  -- what a stop may leave now is among the images since then
  pub image_now : (P : List ℕ → Type 0) → EachImage m0 m1 P → (c : List ℕ) → m1.images c → P c
  image_now P moments c image = moments.each c (m1.counts_now m0.moment c moments.later image)

  pub each_weaker : (P Q : List ℕ → Type 0) → EachImage m0 m1 P → ((c : List ℕ) → P c → Q c) → EachImage m0 m1 Q
  each_weaker P Q moments weaker = record {
    size = moments.size;
    later = moments.later;
    each = λ c left. weaker c (moments.each c left);
    before = λ t c le left. ⊎_elim (λ was. inl was) (λ p. inr (weaker c p)) (moments.before t c le left);
    keeps = moments.keeps;
  }

-- a call that does nothing
pub each_still : (m : Medium) → EachImage m m m.images
each_still m = record { size = refl; later = omega arith; each = m.only_now; before = λ t c le left. inl left; keeps = λ t c le left. left }

pub keeps_still : (m : Medium) → Keeps m m
keeps_still m = record { content = refl; images = λ c image. image; moments = each_still m }

-- nothing is unsynced, so each image is the content
pub settled_image : (m : Medium) (P : List ℕ → Type 0) (c : List ℕ) → IsSettled m → Told m P → m.images c → P c
settled_image m P c settled told image = told_at m.content P c (settled.only c image) told

-- ---- one call after another

module _ (m0 m1 m2 : Medium) where
  pub becomes_then : (first second both : List ℕ → List ℕ → Type 0) → Becomes first m0 m1 → Becomes second m1 m2 → ((b c d : List ℕ) → first b c → second c d → both b d) → Becomes both m0 m2
  becomes_then first second both one two joined = record {
    size = two.size ∙ one.size;
    told = λ d is. let from = two.told d is in let was = one.told from.0 from.1 in (was.0, was.1, joined was.0 from.0 d was.2 from.2);
    still = λ some. two.still (one.still some);
  }

  -- images of two runs, one behind the other
  pub goes_on : (P Q R : List ℕ → Type 0) → EachImage m0 m1 P → EachImage m1 m2 Q → ((c : List ℕ) → P c → R c) → ((c : List ℕ) → Q c → R c) → EachImage m0 m2 R
  goes_on P Q R one two left right = record {
    size = two.size ∙ one.size;
    later = omega (arith, one.later, two.later);
    each = λ c at. ⊎_elim (λ was. left c (one.each c was)) (λ q. right c q) (two.before m0.moment c one.later at);
    before = λ t c le at. ⊎_elim
        (λ was. ⊎_elim (λ old. inl old) (λ p. inr (left c p)) (one.before t c le was))
        (λ q. inr (right c q))
        (two.before t c (omega (arith, one.later, le)) at);
    keeps = λ t c le at. two.keeps t c (omega (arith, one.later, le)) (one.keeps t c le at);
  }

  pub keeps_then : Keeps m0 m1 → Keeps m1 m2 → Keeps m0 m2
  keeps_then one two = record {
    content = two.content ∙ one.content;
    images = λ c image. one.images c (two.images c image);
    moments = goes_on m0.images m1.images m0.images one.moments two.moments (λ c p. p) (λ c q. one.images c q);
  }

-- after a step, a call that leaves the content
module _ (m0 m1 m2 : Medium) (step : List ℕ → List ℕ → Type 0) where
  pub becomes_kept : Becomes step m0 m1 → m2.size ≡ m1.size → m2.content ≡ m1.content → Becomes step m0 m2
  becomes_kept becomes size same = record {
    size = size ∙ becomes.size;
    told = λ c is. becomes.told c (sym same ∙ is);
    still = λ some. subst (λ (o : Option (List ℕ)). IsSome o) (sym same) (becomes.still some);
  }

  -- what is after a step from an image is after one from the content, where nothing is unsynced
  settled_after : IsSettled m0 → (c : List ℕ) → After step m0.images c → From step m0 c
  settled_after settled c after = (after.0, settled.only after.0 after.1, after.2)

  pub settled_moments : IsSettled m0 → EachImage m0 m1 (After step m0.images) → EachImage m0 m1 (From step m0)
  settled_moments settled moments = each_weaker m0 m1 (After step m0.images) (From step m0) moments (settled_after settled)

  pub moments_kept : IsSettled m0 → EachImage m0 m1 (After step m0.images) → EachImage m1 m2 m1.images → EachImage m0 m2 (From step m0)
  moments_kept settled one two =
      goes_on m0 m1 m2 (After step m0.images) m1.images (From step m0) one two (settled_after settled)
      (λ c image. settled_after settled c (image_now m0 m1 (After step m0.images) one c image))

-- a read leaves a disk settled
pub settled_kept : (m0 m1 : Medium) → Keeps m0 m1 → IsSettled m0 → IsSettled m1
settled_kept m0 m1 keeps settled = record { only = λ c image. keeps.content ∙ settled.only c (keeps.images c image) }

-- a step from what a step made is one step from the start
pub from_then : (m0 m1 : Medium) (first second both : List ℕ → List ℕ → Type 0) → Becomes first m0 m1 → ((b c d : List ℕ) → first b c → second c d → both b d) → (d : List ℕ) → From second m1 d → From both m0 d
from_then m0 m1 first second both becomes joined d from =
    let was = becomes.told from.0 from.1 in (was.0, was.1, joined was.0 from.0 d was.2 from.2)

-- ---- two disks

pub each_pair : (a0 a1 b0 b1 : Medium) (P Q : List ℕ → Type 0) (R : List ℕ → List ℕ → Type 0) → EachImage a0 a1 P → EachImage b0 b1 Q → ((c d : List ℕ) → P c → Q d → R c d) → EachPair a0 a1 b0 b1 R
each_pair a0 a1 b0 b1 P Q R one two joined = record {
  later1 = one.later;
  later2 = two.later;
  each = λ c d left right. joined c d (one.each c left) (two.each d right);
}

-- where each image has become the content, the disk is kept
pub settled_keeps : (m0 m1 : Medium) → m1.content ≡ m0.content → EachImage m0 m1 m0.images → Keeps m0 m1
settled_keeps m0 m1 content moments = record {
  content = content;
  images = λ c image. moments.each c (m1.counts_now m0.moment c moments.later image);
  moments = moments;
}
