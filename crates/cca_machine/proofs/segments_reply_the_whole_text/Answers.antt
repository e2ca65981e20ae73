-- What is replied is what the law of cuttings says of the segments.
use Rattle.cca_machine.proofs.CutReplies.{replied_texts_are_whole}
use Rattle.cca_machine.proofs.segments_reply_the_whole_text.Goals as goal

pub returns : goal.returns
returns c = replied_texts_are_whole
