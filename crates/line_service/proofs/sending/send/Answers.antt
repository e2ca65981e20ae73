-- A piece is sent part by part.
use Rattle.std.proofs.Common.{refl, ◌∙◌, arith}
use Rattle.line_service.proofs.SendingLemmas.{none_sent, more_sent}
use Rattle.line_service.proofs.sending.send.Goals as goal

pub parts-init : goal.parts-init
parts-init g c = record { got = none_sent (g.K.Sink.held c.args.sink.now) c.args.piece.now; quiet = refl }

pub returns-clause-part : goal.returns-clause-part
returns-clause-part g c = tt

pub returns-clause-cause : goal.returns-clause-cause
returns-clause-cause g c = record { later = omega (arith, c.parts.invariant.quiet); failed = tt; quiet = c.parts.invariant.quiet }

pub parts-preserved : goal.parts-preserved
parts-preserved g c = record {
  got = more_sent (g.K.Sink.held c.args.sink.now) (g.K.Sink.held c.parts.sink) (g.K.Sink.held c.write.new.self) c.args.piece.now c.parts.rest.now c.in_ok-count.count c.parts.invariant.got c.in_ok-count.ensures.bytes;
  quiet = c.in_ok-count.ensures.quiet ∙ c.parts.invariant.quiet;
}
