use Rattle.text_segments.proofs.CutLaws.{cut_codes}
use Rattle.text_segments.proofs.laws.cut_codes_are_whole.Goals as goal

pub returns : goal.returns
returns c = cut_codes
