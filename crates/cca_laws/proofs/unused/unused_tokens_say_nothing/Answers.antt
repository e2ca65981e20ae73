use Rattle.cca_laws.proofs.UnusedStates.{same_random, same_replies, same_reply, same_state, same_states, same_taken, same_verdict}
use Rattle.cca_laws.proofs.unused.unused_tokens_say_nothing.Goals as goal

pub returns-clause-verdicts : goal.returns-clause-verdicts
returns-clause-verdicts c = same_verdict

pub returns-clause-taken : goal.returns-clause-taken
returns-clause-taken c = same_taken

pub returns-clause-reply : goal.returns-clause-reply
returns-clause-reply c = same_reply

pub returns-clause-state : goal.returns-clause-state
returns-clause-state c = same_state

pub returns-clause-replies : goal.returns-clause-replies
returns-clause-replies c = same_replies

pub returns-clause-states : goal.returns-clause-states
returns-clause-states c = same_states

pub returns-clause-random : goal.returns-clause-random
returns-clause-random c = same_random
