use Rattle.cca_laws.proofs.SealedLaws.{blank_sealed, sealed}
use Rattle.cca_laws.proofs.sealing.the_store_is_sealed.Goals as goal

pub returns-clause-blank : goal.returns-clause-blank
returns-clause-blank c = blank_sealed

pub returns-clause-sealed : goal.returns-clause-sealed
returns-clause-sealed c = sealed
