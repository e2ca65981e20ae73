use Rattle.text_segments.proofs.CutLaws.{cut_texts}
use Rattle.text_segments.proofs.laws.cut_texts_are_whole.Goals as goal

pub returns : goal.returns
returns c = cut_texts
