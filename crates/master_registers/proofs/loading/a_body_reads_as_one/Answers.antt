use Rattle.master_registers.proofs.BodyLaws.{reads_one}
use Rattle.master_registers.proofs.loading.a_body_reads_as_one.Goals as goal

pub returns : goal.returns
returns c = reads_one
