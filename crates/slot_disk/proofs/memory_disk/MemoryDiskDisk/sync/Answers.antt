use Rattle.std.proofs.Common.{◌≡◌, ◌<◌, List, [], ◌∷◌, ◌++◌, length, sym, ◌∙◌, ap, subst, arith}
use Rattle.std.proofs.lemmas.Bool.Decides.{nat_tests}
use Rattle.std.proofs.lemmas.Grind.{common_steps}
use Rattle.std.specs.Vec.{vec_capacity}
use Rattle.slot_disk.specs.DiskState.{DiskState, IsDisk}
use Rattle.slot_disk.specs.LogMedium.{log_medium}
use Rattle.device_cells.specs.Medium.{IsSettled, EachImage}
use Rattle.slot_disk.specs.Stages.{stage, IsTorn}
use Rattle.slot_disk.specs.declared.call.Call.{Call}
use Rattle.slot_disk.specs.declared.call.Call.TheVariants.{Synced}
use Rattle.slot_disk.proofs.DiskSteps.{is_disk_more}
use Rattle.slot_disk.proofs.Logging.{log_moved, synced_moments, synced_content, synced_settled}
use Rattle.slot_disk.proofs.memory_disk.MemoryDiskDisk.sync.Goals as goal

pub invariant_of-self-2 : goal.invariant_of-self-2
invariant_of-self-2 c =
    let room : length c.self.inside.calls.items < c.self.inside.room = grind (arith, nat_tests, common_steps) in
    let disk : IsDisk c.self.inside.first.items c.self.inside.content.items c.self.inside.calls.items c.self.inside.room (vec_capacity c.self.inside.calls) = c.self.invariant in
    subst (IsDisk c.self.inside.first.items c.self.inside.content.items c.push_reserved.new.self.items c.self.inside.room) (sym c.push_reserved.ensures.capacity)
    (is_disk_more _ _ _ _ _ Synced _ _ disk room c.push_reserved.ensures.items disk.replayed)

pub returns-clause-settled : goal.returns-clause-settled
returns-clause-settled c =
    let first : c.self.inside.first.items ≡ c.args.self.now.first = ap (λ (d : DiskState). d.first) c.self.view_is in
    let before : c.self.inside.calls.items ≡ c.args.self.now.calls = ap (λ (d : DiskState). d.calls) c.self.view_is in
    let pushed : c.push_reserved.new.self.items ≡ c.args.self.now.calls ++ Synced ∷ [] =
    c.push_reserved.ensures.items ∙ ap (λ (l : List Call). l ++ Synced ∷ []) before in
    log_moved IsSettled _ _ _ _ first pushed (synced_settled c.args.self.now.first c.args.self.now.calls)

pub returns-clause-content : goal.returns-clause-content
returns-clause-content c =
    let first : c.self.inside.first.items ≡ c.args.self.now.first = ap (λ (d : DiskState). d.first) c.self.view_is in
    let before : c.self.inside.calls.items ≡ c.args.self.now.calls = ap (λ (d : DiskState). d.calls) c.self.view_is in
    let pushed : c.push_reserved.new.self.items ≡ c.args.self.now.calls ++ Synced ∷ [] =
    c.push_reserved.ensures.items ∙ ap (λ (l : List Call). l ++ Synced ∷ []) before in
    log_moved (λ m. m.content ≡ (log_medium c.args.self.now.first c.args.self.now.calls).content) _ _ _ _ first pushed (synced_content c.args.self.now.first c.args.self.now.calls)

pub returns-clause-moments : goal.returns-clause-moments
returns-clause-moments c =
    let first : c.self.inside.first.items ≡ c.args.self.now.first = ap (λ (d : DiskState). d.first) c.self.view_is in
    let before : c.self.inside.calls.items ≡ c.args.self.now.calls = ap (λ (d : DiskState). d.calls) c.self.view_is in
    let pushed : c.push_reserved.new.self.items ≡ c.args.self.now.calls ++ Synced ∷ [] =
    c.push_reserved.ensures.items ∙ ap (λ (l : List Call). l ++ Synced ∷ []) before in
    log_moved (λ m. EachImage (log_medium c.args.self.now.first c.args.self.now.calls) m (IsTorn (stage c.args.self.now.first c.args.self.now.calls))) _ _ _ _ first pushed
    (synced_moments c.args.self.now.first c.args.self.now.calls)
