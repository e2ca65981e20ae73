use Rattle.std.proofs.Common.{◌≡◌, Ok, Err, inl, inr, refl, sym, subst, ◌∙◌}
use Rattle.key_cells.specs.Lease.{bench_of}
use Rattle.device_cells.specs.Cells.{body}
use Rattle.device_cells.specs.Medium.{Told}
use Rattle.key_records.specs.declared.faults.RecordFault.TheVariants.{Damaged}
use Rattle.verb_rules.specs.Keys.{keys_of}
use Rattle.key_records.proofs.ReadLaws.{cell_fits, damaged_one, loaded_with, not_damaged}
use Rattle.key_records.proofs.ReadLaws.{opened_cause, opens_read, refused_held, refused_unread, unopened_cause}
use Rattle.key_records.proofs.opening.open_cell.Goals as goal
use Rattle.key_cells.proofs.AnswerLemmas.{no_err, unless_err}

pub read_cell-requires : goal.read_cell-requires
read_cell-requires g c = cell_fits (g.D.Disk.medium c.args.store.now).size c.args.cell c.new.result c.requires.1.0 c.requires.1.1.0 c.new.ensures

pub read_row-requires : goal.read_row-requires
read_row-requires g c = (loaded_with g.m c.args.held.now (bench_of c.args.lease.now) c.read_cell.new.out c.requires.1.1.1.0, c.requires.1.1.1.1.0)

pub put-requires : goal.put-requires
put-requires g c = c.requires.1.1.0

-- ---- the disk failed

pub returns-then-is_err-clause-opened : goal.returns-then-is_err-clause-opened
returns-then-is_err-clause-opened g c = tt

pub returns-then-is_err-clause-rows : goal.returns-then-is_err-clause-rows
returns-then-is_err-clause-rows g c = c.requires.1.1.1.1.1

pub returns-then-is_err-clause-damaged : goal.returns-then-is_err-clause-damaged
returns-then-is_err-clause-damaged g c n is = not_damaged n is

pub returns-then-is_err-clause-faults : goal.returns-then-is_err-clause-faults
returns-then-is_err-clause-faults g c = inl refl

pub returns-then-is_err-clause-cause : goal.returns-then-is_err-clause-cause
returns-then-is_err-clause-cause g c =
    unopened_cause (g.D.Disk.faults c.args.store.now) (g.D.Disk.faults c.read_cell.new.disk) c.read_cell.result c.read_cell.ensures.cause (sym c.is_err.ensures.value ∙ c.if-is_err.true)

pub returns-then-is_err-clause-rest : goal.returns-then-is_err-clause-rest
returns-then-is_err-clause-rest g c = refl

-- ---- the cell was read

pub returns-then-put-clause-opened : goal.returns-then-put-clause-opened
returns-then-put-clause-opened g c =
    let m = g.D.Disk.medium c.args.store.now in
    opens_read m (keys_of g.m) c.read_cell.new.out c.args.cell c.args.records.now
    (subst (λ k. Told m (λ image. c.read_cell.new.out ≡ body image k)) c.new.ensures (unless_err c.read_cell.result (sym c.is_err.ensures.value ∙ c.if-is_err.false) c.read_cell.ensures.bytes))
    c.in-Some.row c.put.new.self (c.in-Some.ensures.reads refl) c.in-Some.ensures.row (c.if-put.ensures.put refl)

pub returns-then-put-clause-damaged : goal.returns-then-put-clause-damaged
returns-then-put-clause-damaged g c n is = no_err is

pub returns-then-put-clause-faults : goal.returns-then-put-clause-faults
returns-then-put-clause-faults g c = tt

pub returns-else-put-clause-damaged : goal.returns-else-put-clause-damaged
returns-else-put-clause-damaged g c n is =
    let m = g.D.Disk.medium c.args.store.now in
    refused_held m (keys_of g.m) c.read_cell.new.out c.args.cell c.args.records.now
    (subst (λ k. Told m (λ image. c.read_cell.new.out ≡ body image k)) c.new.ensures (unless_err c.read_cell.result (sym c.is_err.ensures.value ∙ c.if-is_err.false) c.read_cell.ensures.bytes))
    n c.in-Some.row (damaged_one c.args.cell n is) (c.in-Some.ensures.reads refl) c.in-Some.ensures.row (c.if-put.ensures.held refl)

pub returns-in-None-clause-damaged : goal.returns-in-None-clause-damaged
returns-in-None-clause-damaged g c n is =
    let m = g.D.Disk.medium c.args.store.now in
    refused_unread m (keys_of g.m) c.read_cell.new.out c.args.cell c.args.records.now
    (subst (λ k. Told m (λ image. c.read_cell.new.out ≡ body image k)) c.new.ensures (unless_err c.read_cell.result (sym c.is_err.ensures.value ∙ c.if-is_err.false) c.read_cell.ensures.bytes))
    n (damaged_one c.args.cell n is) (c.in-None.ensures.none refl)

pub returns-in-None-clause-rows : goal.returns-in-None-clause-rows
returns-in-None-clause-rows g c = c.requires.1.1.1.1.1

pub returns-then-put-clause-cause : goal.returns-then-put-clause-cause
returns-then-put-clause-cause g c =
    opened_cause (g.D.Disk.faults c.args.store.now) (g.D.Disk.faults c.read_cell.new.disk) c.read_cell.result c.read_cell.ensures.cause
    (sym c.is_err.ensures.value ∙ c.if-is_err.false) (Ok tt) (λ is. no_err is)

pub returns-then-put-clause-rest : goal.returns-then-put-clause-rest
returns-then-put-clause-rest g c = c.read_row.ensures.rest

pub returns-then-put-clause-rows : goal.returns-then-put-clause-rows
returns-then-put-clause-rows g c = c.put.ensures.rows

pub returns-else-put-clause-cause : goal.returns-else-put-clause-cause
returns-else-put-clause-cause g c =
    opened_cause (g.D.Disk.faults c.args.store.now) (g.D.Disk.faults c.read_cell.new.disk) c.read_cell.result c.read_cell.ensures.cause
    (sym c.is_err.ensures.value ∙ c.if-is_err.false) (Err (Damaged c.args.cell)) (λ is. not_damaged c.args.cell (sym is))

pub returns-else-put-clause-rest : goal.returns-else-put-clause-rest
returns-else-put-clause-rest g c = c.read_row.ensures.rest

pub returns-else-put-clause-rows : goal.returns-else-put-clause-rows
returns-else-put-clause-rows g c = c.put.ensures.rows

pub returns-else-put-clause-opened : goal.returns-else-put-clause-opened
returns-else-put-clause-opened g c = tt

pub returns-else-put-clause-faults : goal.returns-else-put-clause-faults
returns-else-put-clause-faults g c = inr refl

pub returns-in-None-clause-cause : goal.returns-in-None-clause-cause
returns-in-None-clause-cause g c =
    opened_cause (g.D.Disk.faults c.args.store.now) (g.D.Disk.faults c.read_cell.new.disk) c.read_cell.result c.read_cell.ensures.cause
    (sym c.is_err.ensures.value ∙ c.if-is_err.false) (Err (Damaged c.args.cell)) (λ is. not_damaged c.args.cell (sym is))

pub returns-in-None-clause-rest : goal.returns-in-None-clause-rest
returns-in-None-clause-rest g c = c.read_row.ensures.rest

pub returns-in-None-clause-opened : goal.returns-in-None-clause-opened
returns-in-None-clause-opened g c = tt

pub returns-in-None-clause-faults : goal.returns-in-None-clause-faults
returns-in-None-clause-faults g c = inr refl

pub returns-then-is_err-clause-keeps : goal.returns-then-is_err-clause-keeps
returns-then-is_err-clause-keeps g c = c.read_cell.ensures.keeps

pub returns-then-put-clause-keeps : goal.returns-then-put-clause-keeps
returns-then-put-clause-keeps g c = c.read_cell.ensures.keeps

pub returns-else-put-clause-keeps : goal.returns-else-put-clause-keeps
returns-else-put-clause-keeps g c = c.read_cell.ensures.keeps

pub returns-in-None-clause-keeps : goal.returns-in-None-clause-keeps
returns-in-None-clause-keeps g c = c.read_cell.ensures.keeps
