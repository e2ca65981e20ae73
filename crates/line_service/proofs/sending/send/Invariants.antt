use Rattle.std.proofs.Common.{◌≡◌, length}
use Rattle.device_cells.specs.WhereTold.{WhereTold}
use Rattle.line_service.proofs.SendingLemmas.{GotAllBut}
use Rattle.line_service.proofs.sending.send.Given as goal

abbrev pub invariant-parts : goal.invariant-parts
invariant-parts g l = record {
  got : WhereTold (g.K.Sink.held l.fn.sink) (g.K.Sink.held l.sink) (λ before now. GotAllBut before now l.piece l.rest);
  quiet : g.K.Sink.faults l.sink ≡ g.K.Sink.faults l.fn.sink;
}

abbrev pub decreases-parts : goal.decreases-parts
decreases-parts g l = length l.rest
