use Rattle.cca_laws.proofs.PointExports.{current_refused, new_refused, no_chain, no_external, no_mac, no_match, no_text, no_token, no_value, verbs_refused}
use Rattle.cca_laws.proofs.exports.points_for_exports_and_texts.Goals as goal

pub returns-clause-external : goal.returns-clause-external
returns-clause-external c = no_external

pub returns-clause-token : goal.returns-clause-token
returns-clause-token c = no_token

pub returns-clause-text : goal.returns-clause-text
returns-clause-text c = no_text

pub returns-clause-chain : goal.returns-clause-chain
returns-clause-chain c = no_chain

pub returns-clause-mac : goal.returns-clause-mac
returns-clause-mac c = no_mac

pub returns-clause-matches : goal.returns-clause-matches
returns-clause-matches c = no_match

pub returns-clause-value : goal.returns-clause-value
returns-clause-value c = no_value

pub returns-clause-verbs : goal.returns-clause-verbs
returns-clause-verbs c = verbs_refused

pub returns-clause-current : goal.returns-clause-current
returns-clause-current c = current_refused

pub returns-clause-new : goal.returns-clause-new
returns-clause-new c = new_refused
