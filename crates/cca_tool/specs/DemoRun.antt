-- What a demo leaves.
use Rattle.std.specs.Prelude.{◌≡◌, ◌⊎◌, ◌++◌, ℕ, List, Option, None}
use Rattle.device_cells.specs.Medium.{Keeps}
use Rattle.device_cells.specs.WhereTold.{WhereTold}
use Rattle.line_service.specs.Machine.{World}
use Rattle.line_service.specs.Sending.{GotPart}
use Rattle.line_service.specs.Serving.{Led, LineLost}
use Rattle.line_service.specs.declared.stops.Stop.{Stop}
use Rattle.cca_machine.specs.State.{State}
use Rattle.cca_machine.specs.Coprocessor.{cca}
use Rattle.command_words.specs.Demo.{demo_lines, demo_text, summary}

-- The lines of the demo lead to the state for which the disks stand, and the sink got the summary of the replies.
pub record SummarySent (n : ℕ) (s : State) (new : World) (before now : Option (List ℕ))
    : Type 0 where
  pub sent : List ℕ
  pub led : Led cca s None new (demo_lines n) sent
  pub held : WhereTold before now (λ x y. y ≡ x ++ summary n sent)

-- The same, but that the sink didn't get all of the summary.
pub record SummaryCut (n : ℕ) (s : State) (new : World) (before now : Option (List ℕ))
    : Type 0 where
  pub sent : List ℕ
  pub led : Led cca s None new (demo_lines n) sent
  pub got : WhereTold before now (λ x y. GotPart x y (summary n sent))

-- A disk failed at a line of the demo; or before the first line, and then nothing has changed.
abbrev pub DemoLost : Stop → ℕ → State → World → World → Type 0
DemoLost stop n s old new =
    LineLost cca stop s None new (demo_text n) None None
    ⊎ (Keeps old.module_ new.module_ × Keeps old.store new.store)
