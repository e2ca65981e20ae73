use Rattle.std.proofs.Common.{◌∙◌, subst}
use Rattle.std.proofs.lemmas.Result.{on_ok_weaker}
use Rattle.device_cells.specs.Cells.{IsReplacing}
use Rattle.device_cells.specs.Faults.{HasCause}
use Rattle.device_cells.specs.Medium.{From}
use Rattle.device_cells.proofs.CellSteps.{replacing_same}
use Rattle.device_cells.proofs.Media.{becomes_same, each_weaker}
use Rattle.device_cells.proofs.Replacing.{spare_moments, spare_becomes, selector_moments, selector_becomes, replaced}
use Rattle.device_cells.proofs.cell.replace_cell.Goals as goal

pub returns-in_err-side-clause-replacing : goal.returns-in_err-side-clause-replacing
returns-in_err-side-clause-replacing g c =
    becomes_same (g.D.Disk.medium c.args.disk.now) (g.D.Disk.medium c.selected_side.new.disk) (IsReplacing c.args.cell c.args.body.now) c.selected_side.ensures.keeps.moments.size c.selected_side.ensures.keeps.content (replacing_same c.args.cell c.args.body.now)

pub returns-in_err-side-clause-moments : goal.returns-in_err-side-clause-moments
returns-in_err-side-clause-moments g c =
    each_weaker (g.D.Disk.medium c.args.disk.now) (g.D.Disk.medium c.selected_side.new.disk) (g.D.Disk.medium c.args.disk.now).images (From (IsReplacing c.args.cell c.args.body.now) (g.D.Disk.medium c.args.disk.now)) c.selected_side.ensures.keeps.moments
    (λ d image. (d, c.requires.settled.only d image, replacing_same c.args.cell c.args.body.now d))

pub returns-in_err-put-clause-replacing : goal.returns-in_err-put-clause-replacing
returns-in_err-put-clause-replacing g c =
    spare_becomes c.args.cell c.in_ok-side.field-0 c.args.body.now (g.D.Disk.medium c.args.disk.now) (g.D.Disk.medium c.selected_side.new.disk) c.requires.settled c.selected_side.ensures.keeps c.body_place.result c.body_place.ensures c.told-body c.in_ok-side.ensures.side (g.D.Disk.medium c.put.new.disk) c.put.ensures.moments c.put.ensures.outside

pub returns-in_err-put-clause-moments : goal.returns-in_err-put-clause-moments
returns-in_err-put-clause-moments g c =
    spare_moments c.args.cell c.in_ok-side.field-0 c.args.body.now (g.D.Disk.medium c.args.disk.now) (g.D.Disk.medium c.selected_side.new.disk) c.requires.settled c.selected_side.ensures.keeps c.body_place.result c.body_place.ensures c.told-body c.in_ok-side.ensures.side (g.D.Disk.medium c.put.new.disk) c.put.ensures.moments

pub returns-clause-replaced : goal.returns-clause-replaced
returns-clause-replaced g c =
    on_ok_weaker c.put-2.result (replaced c.args.cell c.in_ok-side.field-0 c.args.body.now (g.D.Disk.medium c.args.disk.now) (g.D.Disk.medium c.selected_side.new.disk) c.requires.settled c.selected_side.ensures.keeps c.body_place.result c.body_place.ensures c.told-body c.in_ok-side.ensures.side (g.D.Disk.medium c.put.new.disk) c.put.ensures.moments c.requires.within c.selector_place.result c.selector_place.ensures c.in_ok-put.ensures.bytes (g.D.Disk.medium c.put-2.new.disk)) c.put-2.ensures.bytes

pub returns-clause-replacing : goal.returns-clause-replacing
returns-clause-replacing g c =
    selector_becomes c.args.cell c.in_ok-side.field-0 c.args.body.now (g.D.Disk.medium c.args.disk.now) (g.D.Disk.medium c.selected_side.new.disk) c.requires.settled c.selected_side.ensures.keeps c.body_place.result c.body_place.ensures c.told-body c.in_ok-side.ensures.side (g.D.Disk.medium c.put.new.disk) c.put.ensures.moments c.requires.within c.selector_place.result c.selector_place.ensures c.in_ok-put.ensures.bytes (g.D.Disk.medium c.put-2.new.disk) c.put-2.ensures.outside

pub returns-clause-moments : goal.returns-clause-moments
returns-clause-moments g c =
    selector_moments c.args.cell c.in_ok-side.field-0 c.args.body.now (g.D.Disk.medium c.args.disk.now) (g.D.Disk.medium c.selected_side.new.disk) c.requires.settled c.selected_side.ensures.keeps c.body_place.result c.body_place.ensures c.told-body c.in_ok-side.ensures.side (g.D.Disk.medium c.put.new.disk) c.put.ensures.moments c.requires.within c.selector_place.result c.selector_place.ensures c.in_ok-put.ensures.bytes (g.D.Disk.medium c.put-2.new.disk) c.put-2.ensures.moments

pub returns-clause-settled : goal.returns-clause-settled
returns-clause-settled g c = c.put-2.ensures.settled

pub returns-clause-cause : goal.returns-clause-cause
returns-clause-cause g c =
    subst (λ count. HasCause count (g.D.Disk.faults c.put-2.new.disk) c.put-2.result)
    (c.in_ok-put.ensures.cause.quiet ∙ c.in_ok-side.ensures.cause.quiet) c.put-2.ensures.cause
