use Rattle.std.proofs.Common.{◌≡◌, ◌<◌, ℕ, List, [], ◌∷◌, ◌++◌, length, sym, ◌∙◌, ap, subst, arith}
use Rattle.std.proofs.lemmas.Bool.Decides.{nat_tests}
use Rattle.std.proofs.lemmas.Grind.{common_steps}
use Rattle.std.specs.Vec.{vec_capacity}
use Rattle.slot_disk.specs.DiskState.{DiskState, IsDisk}
use Rattle.slot_disk.specs.LogMedium.{log_medium}
use Rattle.device_cells.specs.Medium.{After, Becomes, EachImage}
use Rattle.device_cells.specs.Ranges.{SameOutside, HoldsPiece, overwrite}
use Rattle.slot_disk.specs.Stages.{stage, IsTorn}
use Rattle.slot_disk.specs.declared.call.Call.{Call}
use Rattle.slot_disk.specs.declared.call.Call.TheVariants.{Written}
use Rattle.slot_disk.proofs.DiskSteps.{is_disk_more}
use Rattle.slot_disk.proofs.Logging.{log_moved, written_moments, written_holds, written_outside}
use Rattle.slot_disk.proofs.memory_disk.MemoryDiskDisk.write.Goals as goal

pub invariant_of-self-2 : goal.invariant_of-self-2
invariant_of-self-2 c =
    let room : length c.self.inside.calls.items < c.self.inside.room = grind (arith, nat_tests, common_steps) in
    let disk : IsDisk c.self.inside.first.items c.self.inside.content.items c.self.inside.calls.items c.self.inside.room (vec_capacity c.self.inside.calls) = c.self.invariant in
    let pushed : c.push_reserved.new.self.items ≡ c.self.inside.calls.items ++ Written c.args.at c.args.piece.now ∷ [] =
    c.push_reserved.ensures.items ∙ ap (λ (l : List ℕ). c.self.inside.calls.items ++ Written c.args.at l ∷ []) c.new.ensures in
    subst (IsDisk c.self.inside.first.items c.overwrite_vec.new.target.items c.push_reserved.new.self.items c.self.inside.room) (sym c.push_reserved.ensures.capacity)
    (is_disk_more _ _ _ _ _ (Written c.args.at c.args.piece.now) _ _ disk room pushed (c.overwrite_vec.ensures ∙ ap (λ (l : List ℕ). overwrite l c.args.at c.args.piece.now) disk.replayed))

pub returns-clause-bytes : goal.returns-clause-bytes
returns-clause-bytes c =
    let first : c.self.inside.first.items ≡ c.args.self.now.first = ap (λ (d : DiskState). d.first) c.self.view_is in
    let before : c.self.inside.calls.items ≡ c.args.self.now.calls = ap (λ (d : DiskState). d.calls) c.self.view_is in
    let pushed : c.push_reserved.new.self.items ≡ c.args.self.now.calls ++ Written c.args.at c.args.piece.now ∷ [] =
    c.push_reserved.ensures.items ∙ ap (λ (l : List Call). l ++ Written c.args.at c.new.result ∷ []) before ∙ ap (λ (l : List ℕ). c.args.self.now.calls ++ Written c.args.at l ∷ []) c.new.ensures in
    log_moved (Becomes (HoldsPiece c.args.at c.args.piece.now) (log_medium c.args.self.now.first c.args.self.now.calls)) _ _ _ _ first pushed
    (written_holds c.args.self.now.first c.args.self.now.calls c.args.at c.args.piece.now c.requires.within)

pub returns-clause-outside : goal.returns-clause-outside
returns-clause-outside c =
    let first : c.self.inside.first.items ≡ c.args.self.now.first = ap (λ (d : DiskState). d.first) c.self.view_is in
    let before : c.self.inside.calls.items ≡ c.args.self.now.calls = ap (λ (d : DiskState). d.calls) c.self.view_is in
    let pushed : c.push_reserved.new.self.items ≡ c.args.self.now.calls ++ Written c.args.at c.args.piece.now ∷ [] =
    c.push_reserved.ensures.items ∙ ap (λ (l : List Call). l ++ Written c.args.at c.new.result ∷ []) before ∙ ap (λ (l : List ℕ). c.args.self.now.calls ++ Written c.args.at l ∷ []) c.new.ensures in
    log_moved (Becomes (SameOutside c.args.at (length c.args.piece.now)) (log_medium c.args.self.now.first c.args.self.now.calls)) _ _ _ _ first pushed
    (written_outside c.args.self.now.first c.args.self.now.calls c.args.at c.args.piece.now c.requires.within)

pub returns-clause-moments : goal.returns-clause-moments
returns-clause-moments c =
    let first : c.self.inside.first.items ≡ c.args.self.now.first = ap (λ (d : DiskState). d.first) c.self.view_is in
    let before : c.self.inside.calls.items ≡ c.args.self.now.calls = ap (λ (d : DiskState). d.calls) c.self.view_is in
    let pushed : c.push_reserved.new.self.items ≡ c.args.self.now.calls ++ Written c.args.at c.args.piece.now ∷ [] =
    c.push_reserved.ensures.items ∙ ap (λ (l : List Call). l ++ Written c.args.at c.new.result ∷ []) before ∙ ap (λ (l : List ℕ). c.args.self.now.calls ++ Written c.args.at l ∷ []) c.new.ensures in
    let P = After (SameOutside c.args.at (length c.args.piece.now)) (IsTorn (stage c.args.self.now.first c.args.self.now.calls)) in
    log_moved (λ m. EachImage (log_medium c.args.self.now.first c.args.self.now.calls) m P) _ _ _ _ first pushed
    (written_moments c.args.self.now.first c.args.self.now.calls c.args.at c.args.piece.now c.requires.within)
