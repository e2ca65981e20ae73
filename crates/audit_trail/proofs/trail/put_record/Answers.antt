use Rattle.std.proofs.Common.{◌≡◌, ◌%◌, ℕ, List, Ok, Err, subst, ◌∙◌}
use Rattle.device_cells.specs.Cells.{IsReplaced, IsReplacing}
use Rattle.device_cells.specs.Medium.{Becomes, EachImage, From}
use Rattle.audit_trail.specs.RecordBody.{record_body}
use Rattle.audit_trail.specs.declared.faults.TrailFault.TheVariants.{DiskFault}
use Rattle.audit_trail.proofs.MediumLaws.{appends, stands_more}
use Rattle.audit_trail.proofs.trail.put_record.Goals as goal

-- the same change of the same cell
at_cell : (P : ℕ → List ℕ → Type 0) (cell n : ℕ) (bytes body : List ℕ) → cell ≡ n → bytes ≡ body → P cell bytes → P n body
at_cell P cell n bytes body cells bodies has = subst (λ (b : List ℕ). P n b) bodies (subst (λ (k : ℕ). P k bytes) cells has)

pub returns-in-Err-clause-appended : goal.returns-in-Err-clause-appended
returns-in-Err-clause-appended g c =
    let m0 = g.T.Disk.medium c.args.trail.now in
    let m1 = g.T.Disk.medium c.replace_cell.new.disk in
    let cells : c.new.result ≡ c.args.next % 4096 = c.new.ensures ∙ c.cell_of.ensures in
    let bodies : c.write_record.new.body ≡ record_body c.args.next c.args.entry.now = c.write_record.ensures in
    appends c.args.next c.args.entry.now c.requires.entry c.requires.below m0 m1 c.requires.stands (Err DiskFault) tt
    (at_cell (λ k b. Becomes (IsReplacing k b) m0 m1) _ _ _ _ cells bodies c.replace_cell.ensures.replacing)
    (at_cell (λ k b. EachImage m0 m1 (From (IsReplacing k b) m0)) _ _ _ _ cells bodies c.replace_cell.ensures.moments)

pub returns-in-Ok-clause-appended : goal.returns-in-Ok-clause-appended
returns-in-Ok-clause-appended g c =
    let m0 = g.T.Disk.medium c.args.trail.now in
    let m1 = g.T.Disk.medium c.replace_cell.new.disk in
    let cells : c.new.result ≡ c.args.next % 4096 = c.new.ensures ∙ c.cell_of.ensures in
    let bodies : c.write_record.new.body ≡ record_body c.args.next c.args.entry.now = c.write_record.ensures in
    appends c.args.next c.args.entry.now c.requires.entry c.requires.below m0 m1 c.requires.stands (Ok tt) (
      c.in-Ok.ensures.settled,
      at_cell (λ k b. Becomes (IsReplaced k b) m0 m1) _ _ _ _ cells bodies c.in-Ok.ensures.replaced,
    )
    (at_cell (λ k b. Becomes (IsReplacing k b) m0 m1) _ _ _ _ cells bodies c.replace_cell.ensures.replacing)
    (at_cell (λ k b. EachImage m0 m1 (From (IsReplacing k b) m0)) _ _ _ _ cells bodies c.replace_cell.ensures.moments)

pub returns-in-Ok-clause-stands : goal.returns-in-Ok-clause-stands
returns-in-Ok-clause-stands g c =
    stands_more c.args.next c.args.entry.now (g.T.Disk.medium c.args.trail.now) (g.T.Disk.medium c.replace_cell.new.disk) (Ok tt) (returns-in-Ok-clause-appended g c) c.requires.stands
