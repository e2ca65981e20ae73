use Rattle.std.proofs.Common.{List, ℕ, ap, ◌∙◌}
use Rattle.key_cells.specs.Bench.{Bench}
use Rattle.key_cells.specs.Lease.{bench_of, holding}
use Rattle.key_cells.specs.declared.places.MasterPlace.TheVariants.{Current, Old}
use Rattle.master_registers.specs.Loaded.{masters_in}
use Rattle.master_registers.specs.Masters.{Masters, new_bytes, kept_bytes}
use Rattle.master_registers.specs.BodyForm.{states_body}
use Rattle.master_registers.proofs.FormLemmas.{three_put, three_registers, with_put}
use Rattle.master_registers.proofs.forms.write_form.Goals as goal

pub returns : goal.returns
returns c =
    let start : Bench = bench_of c.args.lease.now in
    let m : Masters = masters_in c.args.held.now start in
    let with_body = λ (bytes : List ℕ). holding c.args.lease.now (record start { body = bytes }) in
    c.put_master-3.ensures
    ∙ ap (with_put 56 Old) c.put_master-2.ensures
    ∙ ap (λ lease. with_put 56 Old (with_put 32 Current lease)) c.put_master.ensures
    ∙ ap (λ body. with_body (three_put body start.coming start.current start.former)) c.write_states.ensures
    ∙ ap (λ bytes. with_body (three_put (states_body c.args.held.now) bytes start.current start.former)) c.requires.placed.coming
    ∙ ap (λ bytes. with_body (three_put (states_body c.args.held.now) (new_bytes m.coming) bytes start.former)) c.requires.placed.current
    ∙ ap (λ bytes. with_body (three_put (states_body c.args.held.now) (new_bytes m.coming) (kept_bytes m.current) bytes)) c.requires.placed.former
    ∙ ap with_body (three_registers m c.args.held.now c.requires.valid c.requires.told)
