use Rattle.cca_laws.proofs.PrintLaws.{printable_reply}
use Rattle.cca_laws.proofs.ReplyLaws.{one_reply, replies_pair}
use Rattle.cca_laws.proofs.SizeLaws.{reply_is_short}
use Rattle.cca_laws.proofs.replies.one_reply_is_one_line.Goals as goal

pub returns-clause-one : goal.returns-clause-one
returns-clause-one c = one_reply

pub returns-clause-pairs : goal.returns-clause-pairs
returns-clause-pairs c = replies_pair

pub returns-clause-printable : goal.returns-clause-printable
returns-clause-printable c = printable_reply

pub returns-clause-short : goal.returns-clause-short
returns-clause-short c = reply_is_short
