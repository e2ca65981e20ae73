use Rattle.std.proofs.Common.{ap}
use Rattle.key_cells.specs.Lease.{loan_of}
use Rattle.cca_requests.proofs.Renewing.{run_carries, run_damaged, run_few, run_left, run_read}
use Rattle.cca_requests.proofs.Storing.{kept_labels}
use Rattle.cca_requests.proofs.changing_store.renew.Goals as goal

pub returns-clause-carries : goal.returns-clause-carries
returns-clause-carries g c = λ s at.
    let old = g.D.Disk.medium c.args.store.now in
    let rows = c.args.records.now in
    let run = c.carry_out-outcome in
    run_carries c.args.action old (g.D.Disk.medium run.new.store) s rows run.new.records at.stands run.result
    (run.ensures.labels s.registers s.labels at.loaded (kept_labels s rows old at.stands)) run.ensures.left.fault run.ensures.left.damaged
    c.answer_run.result c.answer_run.new.reply c.answer_run.ensures

pub returns-clause-left : goal.returns-clause-left
returns-clause-left g c =
    let run = c.carry_out-outcome in
    run_left c.requires.store.size run.result run.ensures.left run.ensures.cells.turned c.answer_run.result c.answer_run.new.reply c.answer_run.ensures

pub returns-clause-run : goal.returns-clause-run
returns-clause-run g c =
    let run = c.carry_out-outcome in
    record {
      outcome = run.result;
      cells = run.ensures.cells;
      cell = run_damaged run.result run.ensures.left.fault;
      directory = run.ensures.left.directory;
      answer = c.answer_run.ensures;
    }

pub returns-clause-loan : goal.returns-clause-loan
returns-clause-loan g c = ap loan_of c.carry_out-outcome.ensures.left.rest

pub answer_run-requires-clause-few : goal.answer_run-requires-clause-few
answer_run-requires-clause-few g c = run_few c.args.action c.args.held.now c.args.records.now c.carry_out-outcome.result c.carry_out-outcome.ensures.cells.count

pub answer_run-requires-clause-read : goal.answer_run-requires-clause-read
answer_run-requires-clause-read g c = run_read c.args.records.now c.carry_out-outcome.result c.carry_out-outcome.ensures.left.fault

pub carry_out-outcome-requires-clause-store : goal.carry_out-outcome-requires-clause-store
carry_out-outcome-requires-clause-store g c = c.requires.store
