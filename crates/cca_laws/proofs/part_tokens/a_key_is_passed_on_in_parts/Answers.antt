use Rattle.cca_laws.proofs.PartTokenLaws.{other_records, part_refused, rest_stays, sizes, still_part, whole_key}
use Rattle.cca_laws.proofs.part_tokens.a_key_is_passed_on_in_parts.Goals as goal

pub returns-clause-parts : goal.returns-clause-parts
returns-clause-parts c = sizes

pub returns-clause-key : goal.returns-clause-key
returns-clause-key c = whole_key

pub returns-clause-others : goal.returns-clause-others
returns-clause-others c = other_records

pub returns-clause-rest : goal.returns-clause-rest
returns-clause-rest c = rest_stays

pub returns-clause-part : goal.returns-clause-part
returns-clause-part c = still_part

pub returns-clause-refused : goal.returns-clause-refused
returns-clause-refused c = part_refused
