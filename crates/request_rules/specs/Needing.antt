-- What the code's table says of a request is what the machine's does.
use Rattle.std.specs.Prelude.{◌≡◌, ℕ, Bool}
use Rattle.verb_script.specs.Grammar.{Request}
use Rattle.cca_machine.specs.Operands.{Operands, needed_points, needs_master, operands}
use Rattle.request_rules.specs.Judging.{AreFit, seen_operands}
use Rattle.request_rules.specs.declared.needed.Needed.{Needed}

pub record IsNeeded (request : Request) (given : Needed) : Type 0 where
  pub points : given.points ≡ needed_points request.name request
  pub master : given.master ≡ needs_master request.name
  pub table : seen_operands given.operands ≡ operands request
  pub fit : AreFit (operands request)

-- these points, the master key or not, and these operands
pub record Needs (points : ℕ) (master : Bool) (operands : Operands) (given : Needed) : Type 0 where
  pub asks_points : given.points ≡ points
  pub asks_master : given.master ≡ master
  pub asks_operands : seen_operands given.operands ≡ operands
