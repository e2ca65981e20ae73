-- How facts on told bytes follow from one another, by cases on what is told.
use Rattle.std.proofs.Common.{◌≡◌, ℕ, ◌<◌, ◌≤◌, inl, inr, ⊎_elim, List, [], ◌++◌, Option, None, Some, subst, arith}
use Rattle.std.proofs.lemmas.Bool.{cases_lt}
use Rattle.std.specs.Io.KnownBytes.{Keeps, Appends, IsAtEnd}
use Rattle.device_cells.specs.Faults.{Rose}
use Rattle.device_cells.specs.WhereTold.{WhereTold}

-- ---- from facts to facts

-- a weaker fact
pub told_weaker : (a b : Option (List ℕ)) (P Q : List ℕ → List ℕ → Type 0) → ((x y : List ℕ) → P x y → Q x y) → WhereTold a b P → WhereTold a b Q
told_weaker None b P Q weaker told = tt
told_weaker (Some x) None P Q weaker told = absurd told
told_weaker (Some x) (Some y) P Q weaker told = weaker x y told

-- one call after another
pub told_then : (a b c : Option (List ℕ)) (P Q R : List ℕ → List ℕ → Type 0) → ((x y z : List ℕ) → P x y → Q y z → R x z) → WhereTold a b P → WhereTold b c Q → WhereTold a c R
told_then None b c P Q R joined first second = tt
told_then (Some x) None c P Q R joined first second = absurd first
told_then (Some x) (Some y) None P Q R joined first second = absurd second
told_then (Some x) (Some y) (Some z) P Q R joined first second = joined x y z first second

-- two facts on one device's bytes
pub told_both : (a b : Option (List ℕ)) (P Q : List ℕ → List ℕ → Type 0) → WhereTold a b P → WhereTold a b Q → WhereTold a b (λ x y. P x y × Q x y)
told_both None b P Q first second = tt
told_both (Some x) None P Q first second = absurd first
told_both (Some x) (Some y) P Q first second = (first, second)

-- nothing is left at the end
pub told_at_end : (a b : Option (List ℕ)) (P : List ℕ → List ℕ → Type 0) → IsAtEnd b → WhereTold a b P → WhereTold a b (λ x y. P x [] × (y ≡ []))
told_at_end None b P at_end told = tt
told_at_end (Some x) None P at_end told = absurd told
told_at_end (Some x) (Some y) P at_end told = (subst (P x) at_end told, at_end)

-- ---- from std's words, in which a source's and a sink's calls speak

pub told_kept : (a b : Option (List ℕ)) → Keeps a b → WhereTold a b (λ x y. y ≡ x)
told_kept None b keeps = tt
told_kept (Some x) None keeps = absurd keeps
told_kept (Some x) (Some y) keeps = keeps

pub told_appended : (a b : Option (List ℕ)) (bytes : List ℕ) → Appends a b bytes → WhereTold a b (λ x y. y ≡ x ++ bytes)
told_appended None b bytes appends = tt
told_appended (Some x) None bytes appends = absurd appends
told_appended (Some x) (Some y) bytes appends = appends

-- what is told at all holds of a device that did nothing
pub told_same : (a : Option (List ℕ)) (P : List ℕ → List ℕ → Type 0) → ((x : List ℕ) → P x x) → WhereTold a a P
told_same None P same = tt
told_same (Some x) P same = same x

-- ---- counts

-- a count that rose before or after other calls rose over all of them
pub rose_wider : (a b c d : ℕ) → a ≤ b → b ≤ c → c ≤ d → Rose b c → Rose a d
rose_wider a b c d before within after rose = ⊎_elim
    (λ (more : a < d). inl more)
    (λ (none : d ≤ a). inr (omega (arith, rose)))
    (cases_lt a d)
