-- The stops of a session.
use Rattle.std.proofs.Common.{◌≡◌, ℕ, Result, Ok, Err, refl, ap, ◌∙◌, subst}
use Rattle.std.specs.Prelude.{IfErr}
use Rattle.line_service.specs.declared.stops.Device.{Device}
use Rattle.line_service.specs.declared.stops.Device.TheVariants.{Module, Store}
use Rattle.line_service.specs.declared.stops.Stop.{Stop}
use Rattle.line_service.specs.declared.stops.Stop.TheVariants.{ReadFault, WriteFault, EntropyFault, ModuleFault, StoreFault, Damaged, InputLimit}
use Rattle.cca_requests.specs.Serving.{IsRequestStop}
use Rattle.cca_machine.specs.Coprocessor.{IsCell, IsRereadCell, IsStop}

-- a stop that names no cell that a disk hasn't
of_stop : (stop : Stop) → ((device : Device) (cell : ℕ) → stop ≡ Damaged device cell → IsCell device cell) → IsStop stop
of_stop ReadFault cells = tt
of_stop WriteFault cells = tt
of_stop InputLimit cells = tt
of_stop EntropyFault cells = tt
of_stop ModuleFault cells = tt
of_stop StoreFault cells = tt
of_stop (Damaged device cell) cells = cells device cell refl

pub stops_in : (r : Result (Unit {0}) Stop) → ((device : Device) (cell : ℕ) → r ≡ Err (Damaged device cell) → IsCell device cell) → IfErr r IsStop
stops_in (Ok done) cells = tt
stops_in (Err stop) cells = of_stop stop (λ device cell h. cells device cell (ap Err h))

-- of the module's cells, cell 0 alone is found damaged
pub cell_zero : (r : Result (Unit {0}) Stop) (cell : ℕ) → IfErr r IsRequestStop → r ≡ Err (Damaged Module cell) → r ≡ Err (Damaged Module 0)
cell_zero r cell stops h =
    h ∙ ap (λ (n : ℕ). Err (Damaged Module n)) (subst (λ (u : Result (Unit {0}) Stop). IfErr u IsRequestStop) h stops)

-- a request finds a cell damaged that it has read again
pub reread_cell : (r : Result (Unit {0}) Stop) (device : Device) (cell : ℕ) → IfErr r IsRequestStop → r ≡ Err (Damaged device cell) → IsRereadCell device cell
reread_cell r Module cell stops h = subst (λ (u : Result (Unit {0}) Stop). IfErr u IsRequestStop) h stops
reread_cell r Store cell stops h = subst (λ (u : Result (Unit {0}) Stop). IfErr u IsRequestStop) h stops
