-- The same of codes.
use Rattle.cca_machine.proofs.CutReplies.{cut_codes_are_verified, replied_codes_are_whole}
use Rattle.cca_machine.proofs.segments_reply_the_whole_code.Goals as goal

pub returns-clause-made : goal.returns-clause-made
returns-clause-made c = replied_codes_are_whole

pub returns-clause-verified : goal.returns-clause-verified
returns-clause-verified c = cut_codes_are_verified
