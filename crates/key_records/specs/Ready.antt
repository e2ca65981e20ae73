-- What an action on every label needs of the registers.
use Rattle.std.specs.Prelude.{◌≡◌}
use Rattle.key_cells.specs.Bench.{Bench}
use Rattle.master_registers.specs.declared.registers.Registers.{Registers}
use Rattle.record_bodies.specs.declared.actions.StoreAction.{StoreAction}
use Rattle.record_bodies.specs.declared.actions.StoreAction.TheVariants.{Ahead}
use Rattle.verb_rules.specs.Ready.{IsReadyAhead}

abbrev pub IsReadyFor : StoreAction → Registers → Bench → Type 0
IsReadyFor a held bench = a ≡ Ahead → IsReadyAhead held bench
