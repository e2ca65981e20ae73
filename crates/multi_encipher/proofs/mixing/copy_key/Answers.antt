-- The keys of a bundle stand in the places of the lease.
use Rattle.std.proofs.Common.{◌≡◌, ◌%◌, length, sym, ap, ◌∙◌, rules}
use Rattle.key_cells.specs.Lease.{bench_of}
use Rattle.multi_encipher.specs.Bundles.{bundle_under, key_of_bundle}
use Rattle.multi_encipher.proofs.BenchLemmas.{transport-part}
use Rattle.multi_encipher.proofs.mixing.copy_key.Goals as goal

pub returns-in-Current : goal.returns-in-Current
returns-in-Current c =
    c.copy_eight.ensures ∙ ap (λ bytes. key_of_bundle bytes c.args.number) c.master.ensures
    ∙ ap (λ under. key_of_bundle (bundle_under (bench_of c.args.lease.now) under) c.args.number) (sym c.in-Current.is)

pub returns-in-Old : goal.returns-in-Old
returns-in-Old c =
    c.copy_eight-in-Old.ensures ∙ ap (λ bytes. key_of_bundle bytes c.args.number) c.master-in-Old.ensures
    ∙ ap (λ under. key_of_bundle (bundle_under (bench_of c.args.lease.now) under) c.args.number) (sym c.in-Old.is)

pub returns-in-New : goal.returns-in-New
returns-in-New c =
    c.copy_eight-in-New.ensures ∙ ap (λ bytes. key_of_bundle bytes c.args.number) c.master-in-New.ensures
    ∙ ap (λ under. key_of_bundle (bundle_under (bench_of c.args.lease.now) under) c.args.number) (sym c.in-New.is)

pub returns-in-First : goal.returns-in-First
returns-in-First c =
    let key = (bench_of c.args.lease.now).first in
    let held : length c.key.result.now ≡ 16 = search rules in
    let long : length key ≡ 16 = sym (ap length c.key.ensures) ∙ held in
    c.copy_eight-in-First.ensures ∙ ap (λ bytes. key_of_bundle bytes (c.args.number % 2)) c.key.ensures
    ∙ transport-part key c.args.number c.requires long
    ∙ ap (λ under. key_of_bundle (bundle_under (bench_of c.args.lease.now) under) c.args.number) (sym c.in-First.is)

pub returns-in-Second : goal.returns-in-Second
returns-in-Second c =
    let key = (bench_of c.args.lease.now).second in
    let held : length c.key-in-Second.result.now ≡ 16 = search rules in
    let long : length key ≡ 16 = sym (ap length c.key-in-Second.ensures) ∙ held in
    c.copy_eight-in-Second.ensures ∙ ap (λ bytes. key_of_bundle bytes (c.args.number % 2)) c.key-in-Second.ensures
    ∙ transport-part key c.args.number c.requires long
    ∙ ap (λ under. key_of_bundle (bundle_under (bench_of c.args.lease.now) under) c.args.number) (sym c.in-Second.is)
