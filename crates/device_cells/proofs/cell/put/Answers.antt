use Rattle.std.proofs.Common.{length, subst}
use Rattle.std.proofs.lemmas.Result.{on_ok_weaker}
use Rattle.device_cells.specs.Faults.{HasCause}
use Rattle.device_cells.specs.Ranges.{HoldsPiece, SameOutside}
use Rattle.device_cells.proofs.Media.{becomes_kept, moments_kept, settled_moments}
use Rattle.device_cells.proofs.cell.put.Goals as goal

pub returns-in_err-write-clause-outside : goal.returns-in_err-write-clause-outside
returns-in_err-write-clause-outside g c = c.write.ensures.outside

pub returns-in_err-write-clause-moments : goal.returns-in_err-write-clause-moments
returns-in_err-write-clause-moments g c =
    settled_moments (g.D.Disk.medium c.args.disk.now) (g.D.Disk.medium c.write.new.self) (g.D.Disk.medium c.write.new.self) (SameOutside c.args.at (length c.args.piece.now)) c.requires.settled c.write.ensures.moments

pub returns-clause-settled : goal.returns-clause-settled
returns-clause-settled g c = c.sync.ensures.settled

pub returns-clause-bytes : goal.returns-clause-bytes
returns-clause-bytes g c =
    on_ok_weaker c.sync.result
    (λ synced. becomes_kept (g.D.Disk.medium c.args.disk.now) (g.D.Disk.medium c.write.new.self) (g.D.Disk.medium c.sync.new.self) (HoldsPiece c.args.at c.args.piece.now) c.in_ok-write.ensures.bytes c.sync.ensures.moments.size c.sync.ensures.content)
    c.sync.ensures.settled

pub returns-clause-outside : goal.returns-clause-outside
returns-clause-outside g c =
    becomes_kept (g.D.Disk.medium c.args.disk.now) (g.D.Disk.medium c.write.new.self) (g.D.Disk.medium c.sync.new.self) (SameOutside c.args.at (length c.args.piece.now)) c.write.ensures.outside c.sync.ensures.moments.size c.sync.ensures.content

pub returns-clause-moments : goal.returns-clause-moments
returns-clause-moments g c =
    moments_kept (g.D.Disk.medium c.args.disk.now) (g.D.Disk.medium c.write.new.self) (g.D.Disk.medium c.sync.new.self) (SameOutside c.args.at (length c.args.piece.now)) c.requires.settled c.write.ensures.moments c.sync.ensures.moments

pub returns-clause-cause : goal.returns-clause-cause
returns-clause-cause g c =
    subst (λ count. HasCause count (g.D.Disk.faults c.sync.new.self) c.sync.result) c.in_ok-write.ensures.quiet c.sync.ensures.cause
