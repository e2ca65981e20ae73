use Rattle.std.proofs.Common.{subst}
use Rattle.record_bodies.specs.StoreStands.{StandsForLabels}
use Rattle.record_bodies.proofs.OneBody.{same_bodies}
use Rattle.record_bodies.specs.Further.{further}
use Rattle.record_bodies.proofs.FurtherLaws.{further_twice, rerun, changed_all, whole}
use Rattle.reencipher.proofs.laws.reruns_end_as_one_run.Goals as goal

pub returns-clause-twice : goal.returns-clause-twice
returns-clause-twice c = further_twice

pub returns-clause-reruns : goal.returns-clause-reruns
returns-clause-reruns c a s stops fits = rerun a s stops 1024 fits

pub returns-clause-done : goal.returns-clause-done
returns-clause-done c a s fits = changed_all a s 1024 fits

pub returns-clause-bytes : goal.returns-clause-bytes
returns-clause-bytes c a masters apart s stops one other n first second below =
    same_bodies masters apart one other (further a s 1024) n first
    (subst (StandsForLabels masters other) (rerun a s stops 1024 (whole a masters one s first)) second) below
