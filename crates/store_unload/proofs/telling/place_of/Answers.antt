use Rattle.std.proofs.Common.{sym, subst}
use Rattle.std.specs.Option.{IsSome}
use Rattle.record_bodies.specs.Entries.{row_directory}
use Rattle.store_unload.proofs.LabelLaws.{held_found}
use Rattle.store_unload.proofs.telling.place_of.Goals as goal

pub unwrap-requires : goal.unwrap-requires
unwrap-requires c =
    subst (λ o. IsSome o) (sym c.find.ensures.found) (held_found c.args.label.now (row_directory c.args.records.now) c.requires.0 c.requires.1)
