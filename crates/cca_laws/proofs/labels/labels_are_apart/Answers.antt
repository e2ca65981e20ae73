use Rattle.cca_laws.proofs.EachLabelLaws.{dropped, marks_kept, renewed, set_turns}
use Rattle.cca_laws.proofs.LabelLaws.{others_kept, stays_free, whole_kept}
use Rattle.cca_laws.proofs.NamedLaws.{same_clear, same_reply}
use Rattle.cca_laws.proofs.labels.labels_are_apart.Goals as goal

pub returns-clause-others : goal.returns-clause-others
returns-clause-others c = others_kept

pub returns-clause-whole : goal.returns-clause-whole
returns-clause-whole c = whole_kept

pub returns-clause-marks : goal.returns-clause-marks
returns-clause-marks c = marks_kept

pub returns-clause-dropped : goal.returns-clause-dropped
returns-clause-dropped c = dropped

pub returns-clause-set : goal.returns-clause-set
returns-clause-set c = set_turns

pub returns-clause-renewed : goal.returns-clause-renewed
returns-clause-renewed c = renewed

pub returns-clause-created : goal.returns-clause-created
returns-clause-created c = stays_free

pub returns-clause-replies : goal.returns-clause-replies
returns-clause-replies c = same_reply

pub returns-clause-clears : goal.returns-clause-clears
returns-clause-clears c = same_clear
