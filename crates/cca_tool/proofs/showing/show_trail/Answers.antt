-- The trail was listed, and the status tells how that ended; or no device was called.
use Rattle.device_cells.proofs.Media.{keeps_still}
use Rattle.line_service.proofs.StopLemmas.{grows_none}
use Rattle.audited_service.specs.Listing.{Listed}
use Rattle.cca_tool.specs.declared.auditing.AuditStatus.TheVariants.{Run}
use Rattle.cca_tool.proofs.ListingLemmas.{all_listed, lines_listed, listed_as, listing_called, listing_kind, none_listed, runs_none, sink_as, sink_uncalled, trail_as, trail_uncalled, unlisted, usage_as, usage_never}
use Rattle.cca_tool.proofs.showing.show_trail.Goals as goal

-- ---- the trail was listed

pub returns-in-Ok-clause-usage : goal.returns-in-Ok-clause-usage
returns-in-Ok-clause-usage g c =
    usage_never c.line_for.result c.in-Ok.line _ c.status_of_listing.result c.in-Ok.is c.line_for.ensures.usage
    (listing_called c.list_trail.result c.status_of_listing.result c.status_of_listing.ensures)

pub returns-in-Ok-clause-statuses : goal.returns-in-Ok-clause-statuses
returns-in-Ok-clause-statuses g c =
    listing_kind c.list_trail.result c.status_of_listing.result c.status_of_listing.ensures c.list_trail.ensures.damage.within c.list_trail.ensures.never_full

pub returns-in-Ok-clause-uncalled : goal.returns-in-Ok-clause-uncalled
returns-in-Ok-clause-uncalled g c = λ none.
    absurd (listing_called c.list_trail.result c.status_of_listing.result c.status_of_listing.ensures none)

pub returns-in-Ok-clause-lines : goal.returns-in-Ok-clause-lines
returns-in-Ok-clause-lines g c =
    lines_listed c.list_trail.result c.status_of_listing.result c.status_of_listing.ensures (g.T.Disk.medium c.args.trail.now)
    (λ es outcome. Listed es outcome (g.K.Sink.held c.args.sink.now) (g.K.Sink.held c.list_trail.new.sink)) c.list_trail.ensures.lines

pub returns-in-Ok-clause-grows : goal.returns-in-Ok-clause-grows
returns-in-Ok-clause-grows g c = c.list_trail.ensures.grows

pub returns-in-Ok-clause-own : goal.returns-in-Ok-clause-own
returns-in-Ok-clause-own g c =
    listed_as c.list_trail.result c.status_of_listing.result c.status_of_listing.ensures _ c.list_trail.ensures.own

pub returns-in-Ok-clause-complete : goal.returns-in-Ok-clause-complete
returns-in-Ok-clause-complete g c = λ words still still_t.
    all_listed c.list_trail.result c.status_of_listing.result c.status_of_listing.ensures (g.T.Disk.medium c.args.trail.now)
    (c.list_trail.ensures.complete still still_t)

pub returns-in-Ok-clause-damage : goal.returns-in-Ok-clause-damage
returns-in-Ok-clause-damage g c =
    listed_as c.list_trail.result c.status_of_listing.result c.status_of_listing.ensures _ c.list_trail.ensures.damage

pub returns-in-Ok-clause-keeps : goal.returns-in-Ok-clause-keeps
returns-in-Ok-clause-keeps g c = c.list_trail.ensures.keeps

pub returns-in-Ok-clause-trail_left : goal.returns-in-Ok-clause-trail_left
returns-in-Ok-clause-trail_left g c =
    trail_as c.list_trail.result c.status_of_listing.result c.status_of_listing.ensures _ _ _ _ c.list_trail.ensures.trail_left

pub returns-in-Ok-clause-sink_left : goal.returns-in-Ok-clause-sink_left
returns-in-Ok-clause-sink_left g c =
    sink_as c.list_trail.result c.status_of_listing.result c.status_of_listing.ensures _ _ c.list_trail.ensures.sink_left

-- ---- no device was called

pub returns-in-Err-clause-usage : goal.returns-in-Err-clause-usage
returns-in-Err-clause-usage g c = usage_as c.line_for.result c.in-Err.status _ c.in-Err.is c.line_for.ensures.usage

pub returns-in-Err-clause-lines : goal.returns-in-Err-clause-lines
returns-in-Err-clause-lines g c =
    none_listed (Run c.in-Err.status) (runs_none c.in-Err.status c.in-Err.ensures.uncalled) (g.T.Disk.medium c.args.trail.now)
    (λ es outcome. Listed es outcome (g.K.Sink.held c.args.sink.now) (g.K.Sink.held c.args.sink.now))

pub returns-in-Err-clause-grows : goal.returns-in-Err-clause-grows
returns-in-Err-clause-grows g c = grows_none (g.K.Sink.held c.args.sink.now)

pub returns-in-Err-clause-own : goal.returns-in-Err-clause-own
returns-in-Err-clause-own g c = unlisted (Run c.in-Err.status) (runs_none c.in-Err.status c.in-Err.ensures.uncalled) _

pub returns-in-Err-clause-damage : goal.returns-in-Err-clause-damage
returns-in-Err-clause-damage g c = unlisted (Run c.in-Err.status) (runs_none c.in-Err.status c.in-Err.ensures.uncalled) _

pub returns-in-Err-clause-keeps : goal.returns-in-Err-clause-keeps
returns-in-Err-clause-keeps g c = keeps_still (g.T.Disk.medium c.args.trail.now)

pub returns-in-Err-clause-trail_left : goal.returns-in-Err-clause-trail_left
returns-in-Err-clause-trail_left g c =
    trail_uncalled (Run c.in-Err.status) (runs_none c.in-Err.status c.in-Err.ensures.uncalled) (g.T.Disk.medium c.args.trail.now) (g.T.Disk.faults c.args.trail.now)

pub returns-in-Err-clause-sink_left : goal.returns-in-Err-clause-sink_left
returns-in-Err-clause-sink_left g c =
    sink_uncalled (Run c.in-Err.status) (runs_none c.in-Err.status c.in-Err.ensures.uncalled) (g.K.Sink.faults c.args.sink.now)
