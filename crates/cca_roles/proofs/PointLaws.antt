-- Numbers of access control points.
use Rattle.std.proofs.Common.{◌≡◌, ◌≤◌, ◌<◌, ◌^◌, ℕ, refl, sym, ap, ◌∙◌, arith}
use Rattle.std.specs.Int.RustNames.{bit_and, bit_or}
use Rattle.std.proofs.lemmas.Bool.{eqb-true, eq-eqb}
use Rattle.std.proofs.lemmas.Nat.{and_le_r}
use Rattle.std.proofs.lemmas.Nat.Bits.{same_from_bits, bit_at_or, bit_at_and}
use Rattle.std.specs.Int.{bit_at}
use Rattle.std.specs.Prelude.{min}
use Rattle.bitflags.specs.Sets.{known_bits}
use Rattle.bitflags.proofs.OnLiterals.{bitflags_on_literals}
use Rattle.cca_roles.specs.Points.{ArePoints, access_points, every_point}

-- the same of the equation
pub points_kept : (bits : ℕ) → ArePoints bits → bit_and bits every_point ≡ bits
points_kept bits are = eqb-true (bit_and bits every_point) bits are

pub are_kept : (bits : ℕ) → bit_and bits every_point ≡ bits → ArePoints bits
are_kept bits is = eq-eqb (bit_and bits every_point) bits is

pub points_below : (bits : ℕ) → ArePoints bits → bits < 2 ^ 32
points_below bits are = omega (arith, and_le_r bits every_point, points_kept bits are)

-- the points of two sets
pub points_union : (a b : ℕ) → ArePoints a → ArePoints b → ArePoints (bit_or a b)
points_union a b first second = are_kept (bit_or a b) (same_from_bits (bit_and (bit_or a b) every_point) (bit_or a b) each)
  where
    within : (n i : ℕ) → ArePoints n → bit_at n i ≤ bit_at every_point i
    within n i are =
        let kept : bit_at n i ≡ min (bit_at n i) (bit_at every_point i) = ap (λ (m : ℕ). bit_at m i) (sym (points_kept n are)) ∙ bit_at_and n every_point i in
        omega (arith, kept)

    each : (i : ℕ) → bit_at (bit_and (bit_or a b) every_point) i ≡ bit_at (bit_or a b) i
    each i = omega (arith, bit_at_and (bit_or a b) every_point i, bit_at_or a b i, within a i first, within b i second)

-- the table has every point
pub known_points : known_bits access_points ≡ every_point
unfolding bitflags_on_literals
known_points = refl
