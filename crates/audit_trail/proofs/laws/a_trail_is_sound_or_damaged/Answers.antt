use Rattle.audit_trail.proofs.OpeningLaws.{trail_undamaged, first_one}
use Rattle.audit_trail.proofs.TrailLaws.{one_length}
use Rattle.audit_trail.proofs.TotalLaws.{sound_or_damaged}
use Rattle.audit_trail.proofs.laws.a_trail_is_sound_or_damaged.Goals as goal

pub returns-clause-either : goal.returns-clause-either
returns-clause-either c = λ image. sound_or_damaged image

pub returns-clause-never_both : goal.returns-clause-never_both
returns-clause-never_both c = λ image es cell trail damaged. trail_undamaged image es trail cell damaged

pub returns-clause-one_length : goal.returns-clause-one_length
returns-clause-one_length c = λ image es fs first second. one_length image es fs first second

pub returns-clause-one_cell : goal.returns-clause-one_cell
returns-clause-one_cell c = λ image cell other first second. first_one image cell other first second
