use Rattle.std.proofs.Common.{Some, refl, ap, ◌∙◌}
use Rattle.std.specs.Option.{option_copied}
use Rattle.key_cells.specs.Lease.{bench_of}
use Rattle.key_transport.specs.Generated.{generated_vector, transport_key}
use Rattle.key_transport.specs.Tokens.{as_current, current_token, key_with}
use Rattle.key_transport.proofs.GeneratedLemmas.{external_given, external_tokens, given_is, key_kept, key_kept_then, keys_change, mixed_given, mixed_tokens, not_operational, op_tokens, some_given, under_token}
use Rattle.key_transport.proofs.generating.write_tokens.Goals as goal

-- ---- what the calls ask

pub write_current-requires : goal.write_current-requires
write_current-requires c = c.requires.current

pub write_current-operational-requires : goal.write_current-operational-requires
write_current-operational-requires c = c.requires.current

pub unwrap-requires : goal.unwrap-requires
unwrap-requires c = some_given c.args.two (mixed_given c.args.form (option_copied c.args.one) (option_copied c.args.two) c.requires.transports c.in-Opex.is)

pub write_under-external-requires : goal.write_under-external-requires
write_under-external-requires c = given_is c.args.two c.unwrap.result c.unwrap.ensures (mixed_given c.args.form (option_copied c.args.one) (option_copied c.args.two) c.requires.transports c.in-Opex.is)

pub unwrap-requires-in-Imex : goal.unwrap-requires-in-Imex
unwrap-requires-in-Imex c = some_given c.args.one (external_given c.args.form (option_copied c.args.one) (option_copied c.args.two) c.requires.transports c.in-Imex.is).0

pub write_under-external-requires-in-Imex : goal.write_under-external-requires-in-Imex
write_under-external-requires-in-Imex c = given_is c.args.one c.unwrap-in-Imex.result c.unwrap-in-Imex.ensures (external_given c.args.form (option_copied c.args.one) (option_copied c.args.two) c.requires.transports c.in-Imex.is).0

pub write_under-other-requires : goal.write_under-other-requires
write_under-other-requires c = given_is c.args.two c.unwrap-in-Imex-2.result c.unwrap-in-Imex-2.ensures (external_given c.args.form (option_copied c.args.one) (option_copied c.args.two) c.requires.transports c.in-Imex.is).1

-- ---- one internal token

pub returns-in-Op-clause-tokens : goal.returns-in-Op-clause-tokens
returns-in-Op-clause-tokens c m loaded =
    op_tokens m c.args.form (transport_key (bench_of c.args.lease.now) (option_copied c.args.one)) (transport_key (bench_of c.args.lease.now) (option_copied c.args.two)) (key_with (bench_of c.args.lease.now) (generated_vector c.args.first c.args.length)) (key_with (bench_of c.args.lease.now) (generated_vector c.args.second c.args.length)) c.write_current.result c.write_current.result c.in-Op.is
    (c.write_current.ensures.token m loaded ∙ ap (λ v. current_token m (key_with (bench_of c.args.lease.now) v)) c.generated_vector.ensures.vector)

pub returns-in-Op-clause-operational : goal.returns-in-Op-clause-operational
returns-in-Op-clause-operational c m loaded is =
    c.write_current.ensures.denoted m loaded ∙ ap (λ v. Some (as_current (key_with (bench_of c.args.lease.now) v))) c.generated_vector.ensures.vector

pub returns-in-Op-clause-stays : goal.returns-in-Op-clause-stays
returns-in-Op-clause-stays c = keys_change c.args.lease.now c.write_current.new.lease (key_kept c.args.lease.now c.write_current.new.lease c.write_current.ensures.stays)

-- ---- an internal and an external one

pub returns-in-Opex-clause-tokens : goal.returns-in-Opex-clause-tokens
returns-in-Opex-clause-tokens c m loaded =
    mixed_tokens m c.args.form (transport_key (bench_of c.args.lease.now) (option_copied c.args.one)) (transport_key (bench_of c.args.lease.now) (option_copied c.args.two)) (key_with (bench_of c.args.lease.now) (generated_vector c.args.first c.args.length)) (key_with (bench_of c.args.lease.now) (generated_vector c.args.second c.args.length)) c.write_current-operational.result c.write_under-external.result c.in-Opex.is
    (c.write_current-operational.ensures.token m loaded ∙ ap (λ v. current_token m (key_with (bench_of c.args.lease.now) v)) c.generated_vector-in-Opex.ensures.vector)
    (under_token c.args.lease.now c.write_current-operational.new.lease c.args.two c.unwrap.result c.generated_vector-in-Opex-2.result (generated_vector c.args.second c.args.length) c.write_under-external.result
    (key_kept c.args.lease.now c.write_current-operational.new.lease c.write_current-operational.ensures.stays) c.write_under-external.ensures.token c.generated_vector-in-Opex-2.ensures.vector c.unwrap.ensures)

pub returns-in-Opex-clause-operational : goal.returns-in-Opex-clause-operational
returns-in-Opex-clause-operational c m loaded is =
    c.write_current-operational.ensures.denoted m loaded ∙ ap (λ v. Some (as_current (key_with (bench_of c.args.lease.now) v))) c.generated_vector-in-Opex.ensures.vector

pub returns-in-Opex-clause-stays : goal.returns-in-Opex-clause-stays
returns-in-Opex-clause-stays c =
    keys_change c.args.lease.now c.write_under-external.new.lease
    (key_kept_then c.args.lease.now c.write_current-operational.new.lease c.write_under-external.new.lease (key_kept c.args.lease.now c.write_current-operational.new.lease c.write_current-operational.ensures.stays) c.write_under-external.ensures.stays)

-- ---- two external ones

pub returns-in-Imex-clause-tokens : goal.returns-in-Imex-clause-tokens
returns-in-Imex-clause-tokens c m loaded =
    external_tokens m c.args.form (transport_key (bench_of c.args.lease.now) (option_copied c.args.one)) (transport_key (bench_of c.args.lease.now) (option_copied c.args.two)) (key_with (bench_of c.args.lease.now) (generated_vector c.args.first c.args.length)) (key_with (bench_of c.args.lease.now) (generated_vector c.args.second c.args.length)) c.write_under-external-in-Imex.result c.write_under-other.result c.in-Imex.is
    (under_token c.args.lease.now c.args.lease.now c.args.one c.unwrap-in-Imex.result c.generated_vector-in-Imex.result (generated_vector c.args.first c.args.length) c.write_under-external-in-Imex.result
    refl c.write_under-external-in-Imex.ensures.token c.generated_vector-in-Imex.ensures.vector c.unwrap-in-Imex.ensures)
    (under_token c.args.lease.now c.write_under-external-in-Imex.new.lease c.args.two c.unwrap-in-Imex-2.result c.generated_vector-in-Imex-2.result (generated_vector c.args.second c.args.length) c.write_under-other.result
    c.write_under-external-in-Imex.ensures.stays c.write_under-other.ensures.token c.generated_vector-in-Imex-2.ensures.vector c.unwrap-in-Imex-2.ensures)

pub returns-in-Imex-clause-operational : goal.returns-in-Imex-clause-operational
returns-in-Imex-clause-operational c m loaded is = absurd (not_operational c.args.form c.in-Imex.is is)

pub returns-in-Imex-clause-stays : goal.returns-in-Imex-clause-stays
returns-in-Imex-clause-stays c =
    keys_change c.args.lease.now c.write_under-other.new.lease
    (key_kept_then c.args.lease.now c.write_under-external-in-Imex.new.lease c.write_under-other.new.lease c.write_under-external-in-Imex.ensures.stays c.write_under-other.ensures.stays)
