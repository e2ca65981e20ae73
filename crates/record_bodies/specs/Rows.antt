-- The rows of the memory: 1,024 places, each label in one alone.
use Rattle.std.specs.Prelude.{◌≡◌, ℕ, List, Option, length}
use Rattle.record_bodies.specs.Ascending.{Lists}
use Rattle.record_bodies.specs.Directory.{AreApart}
use Rattle.record_bodies.specs.Entries.{row_directory}
use Rattle.record_bodies.specs.declared.rows.Row.{Row}

pub record AreRows (rows : List (Option Row)) : Type 0 where
  pub size : length rows ≡ 1024
  pub apart : AreApart (row_directory rows)

-- the rows by their cells, and the cells that hold a label in ascending order of their labels
pub record AreListed (rows : List (Option Row)) (cells : List ℕ) : Type 0 where
  pub are : AreRows rows
  pub listed : Lists (row_directory rows) cells
