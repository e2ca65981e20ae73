use Rattle.std.proofs.Common.{◌≡◌, ℕ, List, Option, length, sym, ap, subst, ◌∙◌, refl, rules}
use Rattle.std.proofs.lemmas.List.{length-set}
use Rattle.key_cells.specs.Lease.{bench_of}
use Rattle.device_cells.specs.Medium.{Told}
use Rattle.record_bodies.specs.StoreStands.{HoldsRows}
use Rattle.record_bodies.specs.declared.rows.Row.{Row}
use Rattle.key_records.proofs.StoreLaws.{replaces_is, rows_changed}
use Rattle.key_records.proofs.records.Records.change.Goals as goal
use Rattle.key_cells.proofs.AnswerLemmas.{unless_err}

pub returns-then-is_err-clause-changes : goal.returns-then-is_err-clause-changes
returns-then-is_err-clause-changes g c = record {
  cell = replaces_is (g.D.Disk.medium c.args.store.now) (g.D.Disk.medium c.replace_cell.new.disk) _ c.new.result c.args.cell c.body.result.now (bench_of c.args.lease.now).body c.new.ensures c.body.ensures
      (record { settled = tt; replaced = tt; replacing = c.replace_cell.ensures.replacing; moments = c.replace_cell.ensures.moments });
  memory = search rules;
  holds = tt;
  rest = refl;
  cause = search rules;
}

pub returns-clause-changes : goal.returns-clause-changes
returns-clause-changes g c =
    let rows : List (Option Row) = c.args.self.now in
    let body : List ℕ = (bench_of c.args.lease.now).body in
    let m0 = g.D.Disk.medium c.args.store.now in
    let m1 = g.D.Disk.medium c.replace_cell.new.disk in
    let size : length rows ≡ 1024 = sym (length-set rows c.args.cell c.args.row) ∙ ap length (sym c.set_row.ensures.set) ∙ c.set_row.ensures.rows.size in
    let cell = replaces_is m0 m1 _ c.new.result c.args.cell c.body.result.now body c.new.ensures c.body.ensures (record {
      settled = unless_err c.replace_cell.result (sym c.is_err.ensures.value ∙ c.if-is_err.false) c.replace_cell.ensures.settled;
      replaced = unless_err c.replace_cell.result (sym c.is_err.ensures.value ∙ c.if-is_err.false) c.replace_cell.ensures.replaced;
      replacing = c.replace_cell.ensures.replacing;
      moments = c.replace_cell.ensures.moments;
    }) in
    record {
      cell = cell;
      memory = search rules;
      holds = subst (λ (r : List (Option Row)). Told m1 (HoldsRows r)) (sym c.set_row.ensures.set)
          (rows_changed c.args.cell body c.args.row rows c.requires.within size c.requires.reads m0 m1 c.requires.holds cell.replaced);
      rest = refl;
      cause = search rules;
    }
