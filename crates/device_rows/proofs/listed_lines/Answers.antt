-- The definitions compute.
use Rattle.std.proofs.Common.{refl}
use Rattle.std.specs.Fmt.{digits}
use Rattle.audited_service.specs.Lines.{word, record_line}
use Rattle.device_rows.proofs.listed_lines.Goals as goal

pub returns : goal.returns
unfolding word record_line digits
returns c = record { carried_out = refl; refused = refl; no_request = refl }
