use Rattle.cca_machine.proofs.RerunLaws.{same_verdict, stop_leaves, rerun_leaves, rerun_counts, none_left, same_bytes}
use Rattle.cca_machine.proofs.stopped_runs_end_as_one_run.Goals as goal

pub returns-clause-stop : goal.returns-clause-stop
returns-clause-stop c = stop_leaves

pub returns-clause-verdict : goal.returns-clause-verdict
returns-clause-verdict c = same_verdict

pub returns-clause-state : goal.returns-clause-state
returns-clause-state c = rerun_leaves

pub returns-clause-changed : goal.returns-clause-changed
returns-clause-changed c = rerun_counts

pub returns-clause-none_left : goal.returns-clause-none_left
returns-clause-none_left c = none_left

pub returns-clause-bytes : goal.returns-clause-bytes
returns-clause-bytes c = same_bytes
