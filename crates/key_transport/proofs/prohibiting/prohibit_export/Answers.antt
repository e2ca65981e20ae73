use Rattle.std.proofs.Common.{◌≡◌, ◌∙◌, Some, ap}
use Rattle.std.specs.Prelude.{slice_range}
use Rattle.key_cells.specs.Lease.{bench_of}
use Rattle.key_tokens.specs.Denotes.{ClearKey}
use Rattle.master_registers.specs.Loaded.{Loaded}
use Rattle.master_registers.specs.Masters.{Masters}
use Rattle.verb_rules.specs.Keys.{opened}
use Rattle.key_transport.specs.Tokens.{as_current, closed_key, current_token, key_with}
use Rattle.key_transport.proofs.PlaceLemmas.{key_put, still_loaded}
use Rattle.key_transport.proofs.prohibiting.prohibit_export.Goals as goal

-- the key that was opened, with the vector that forbids export
key_is : (c : goal.After-write_current) → key_with (bench_of c.open_key.new.lease) c.without_export-vector.result ≡ closed_key (opened (bench_of c.args.lease.now) c.args.key.now)
key_is c =
    let clear : ClearKey = opened (bench_of c.args.lease.now) c.args.key.now in
    let place = (bench_of c.open_key.new.lease).key in
    ap (λ n. record { key = slice_range place 0 n; vector = c.without_export-vector.result }) c.without_export-vector.ensures.length
    ∙ (ap (λ k. record { key = k; vector = c.without_export-vector.result }) (key_put clear.vector clear.key place c.open_key.ensures.length c.open_key.ensures.key)
    ∙ ap (λ v. record { key = clear.key; vector = v }) c.without_export-vector.ensures.vector)

loaded_still : (c : goal.After-write_current) (m : Masters) → Loaded m c.args.held.now (bench_of c.args.lease.now) → Loaded m c.args.held.now (bench_of c.open_key.new.lease)
loaded_still c m =
    still_loaded m c.args.held.now (bench_of c.args.lease.now) (bench_of c.open_key.new.lease)
    (ap (λ l. (bench_of l).coming) c.open_key.ensures.stays)
    (ap (λ l. (bench_of l).current) c.open_key.ensures.stays)
    (ap (λ l. (bench_of l).former) c.open_key.ensures.stays)

pub returns-clause-token : goal.returns-clause-token
returns-clause-token c = λ m loaded. c.write_current.ensures.token m (loaded_still c m loaded) ∙ ap (current_token m) (key_is c)

pub returns-clause-denoted : goal.returns-clause-denoted
returns-clause-denoted c = λ m loaded. c.write_current.ensures.denoted m (loaded_still c m loaded) ∙ ap (λ k. Some (as_current k)) (key_is c)
