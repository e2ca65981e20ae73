-- The number of some access control points, from its bytes.
use Rattle.std.proofs.Common.{◌≡◌, ℕ}
use Rattle.std.specs.Int.{to_be_bytes, from_be_bytes, w32}
use Rattle.std.proofs.lemmas.Nat.{from_be_bytes-to_be_bytes_4}
use Rattle.cca_roles.specs.Points.{ArePoints}
use Rattle.cca_roles.proofs.PointLaws.{points_below}

pub same_points : (points : ℕ) → ArePoints points → from_be_bytes w32 (to_be_bytes w32 points) ≡ points
same_points points are = from_be_bytes-to_be_bytes_4 points (points_below points are)
