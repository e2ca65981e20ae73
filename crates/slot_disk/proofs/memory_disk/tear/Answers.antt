use Rattle.std.proofs.Common.{◌≡◌, take, length, replicate, sym, ◌∙◌, ap}
use Rattle.std.proofs.lemmas.List.{take-replicate}
use Rattle.device_cells.specs.Ranges.{overwrite}
use Rattle.slot_disk.specs.TornImage.{torn_over}
use Rattle.slot_disk.specs.declared.memory_disk.Torn.{Torn}
use Rattle.slot_disk.proofs.memory_disk.tear.Goals as goal

pub returns-in-Fill : goal.returns-in-Fill
returns-in-Fill c =
    let filled : c.overwrite_at-in-Fill.new.target ≡ overwrite c.args.image.now c.args.at (take (length c.args.bytes.now) (replicate 192 c.in-Fill.byte)) = c.overwrite_at-in-Fill.ensures in
    filled
    ∙ ap (overwrite c.args.image.now c.args.at) (take-replicate (length c.args.bytes.now) 192 c.in-Fill.byte c.requires)
    ∙ ap (λ (t : Torn). torn_over t c.args.image.now c.args.at c.args.bytes.now) (sym c.in-Fill.is)
