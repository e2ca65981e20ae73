use Rattle.cca_laws.proofs.LeavingLaws.{leaves_sealed}
use Rattle.cca_laws.proofs.RefusalLaws.{refuses}
use Rattle.cca_laws.proofs.leaving.keys_leave_sealed.Goals as goal

pub returns-clause-replies : goal.returns-clause-replies
returns-clause-replies c = leaves_sealed

pub returns-clause-refusals : goal.returns-clause-refusals
returns-clause-refusals c = refuses
