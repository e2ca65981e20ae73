-- Key ceremonies: the access control points of the steps, and the master keys that stay.
use Rattle.std.specs.Prelude.{◌≡◌, ℕ, codes}
use Rattle.master_registers.specs.Masters.{Masters}
use Rattle.cca_machine.specs.Points.{point}

-- the points of FIRST, of MIDDLE and LAST, and of SET
abbrev pub first_point : ℕ
first_point = point (codes "MK_FIRST")

abbrev pub combine_point : ℕ
combine_point = point (codes "MK_COMBINE")

abbrev pub set_point : ℕ
set_point = point (codes "MK_SET")

-- the current and the old master key are as they were
pub record SameKeys (before now : Masters) : Type 0 where
  pub current : now.current ≡ before.current
  pub former : now.former ≡ before.former
