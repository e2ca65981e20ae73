use Rattle.cca_machine.proofs.TableLaws.{first_taken, pair_taken, second_taken}
use Rattle.cca_machine.proofs.tables.forms_of_requests_have_transport_keys.Goals as goal

pub returns : goal.returns
returns c = record { first = first_taken; second = second_taken; pair = pair_taken }
