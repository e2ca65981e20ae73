use Rattle.std.proofs.Common.{◌≡◌, ◌⊎◌, ℕ, List, Option, Err, inl, inr, refl, sym, ap, subst, ◌∙◌, arith}
use Rattle.std.specs.Prelude.{IsOk, IsSome}
use Rattle.device_cells.proofs.Media.{keeps_then, told_earlier, told_from, told_at, settled_kept}
use Rattle.device_cells.proofs.WhereToldLemmas.{rose_wider}
use Rattle.audit_trail.specs.TrailStands.{IsFirstDamaged, IsTrail}
use Rattle.audit_trail.specs.declared.entries.Entry.{Entry as AnyEntry}
use Rattle.audit_trail.specs.declared.faults.TrailFault.{TrailFault}
use Rattle.audit_trail.specs.declared.faults.TrailFault.TheVariants.{DiskFault, Damaged}
use Rattle.audited_service.specs.declared.listing.ListFault.TheVariants.{Trail, WriteFault}
use Rattle.audited_service.proofs.DamageLaws.{Ends, opening_fault, listing_fault, each_within, opened_undamaged, told_never, sound_opened, listed_none, read_no_fault, trail_not_write}
use Rattle.audited_service.specs.Listing.{Listed}
use Rattle.audited_service.proofs.ReadLaws.{read_nothing}
use Rattle.audited_service.proofs.listing.list_trail.Goals as goal
use Rattle.line_service.proofs.StopLemmas.{grows_none}

-- a listing that the trail ended is neither done nor ended by the sink
not_done : (fault : TrailFault) → IsOk {T = Unit {0}} (Err (Trail fault)) ⊎ (◌≡◌ {A = Ends} (Err (Trail fault)) (Err WriteFault)) → ⊥
not_done fault (inl done) = cc done
not_done fault (inr of_sink) = trail_not_write fault of_sink

pub returns-in-Ok-clause-damage : goal.returns-in-Ok-clause-damage
returns-in-Ok-clause-damage g c =
    let m0 = g.T.Disk.medium c.args.trail.now in
    let m1 = g.T.Disk.medium c.open_trail.new.trail in
    record {
      found = λ cell is. told_never m0 m1 (λ image. IsFirstDamaged image cell) c.in-Ok.ensures.keeps.content (c.send_records.ensures.undamaged cell is);
      judged = λ fell. opened_undamaged m0 m1 c.open_trail.new.held (λ cell. c.send_records.result ≡ Err (Trail (Damaged cell))) c.in-Ok.ensures.keeps.content c.in-Ok.ensures.stands;
      unsent = opened_undamaged m0 m1 c.open_trail.new.held (λ cell. c.send_records.new.sink ≡ c.args.sink.now) c.in-Ok.ensures.keeps.content c.in-Ok.ensures.stands;
      within = each_within c.send_records.result c.send_records.ensures.faults;
    }

pub returns-in-Err-clause-lines : goal.returns-in-Err-clause-lines
returns-in-Err-clause-lines g c = listed_none (g.T.Disk.medium c.args.trail.now) c.in-Err.fault c.in-Err.ensures.damaged (g.K.Sink.held c.args.sink.now)

pub returns-in-Ok-clause-own : goal.returns-in-Ok-clause-own
returns-in-Ok-clause-own g c = (c.open_trail.new.held, c.send_records.ensures.own)

pub returns-in-Err-clause-own : goal.returns-in-Err-clause-own
returns-in-Err-clause-own g c = read_nothing c.in-Err.fault (g.K.Sink.held c.args.sink.now) c.in-Err.ensures.faults

pub returns-in-Err-clause-complete : goal.returns-in-Err-clause-complete
returns-in-Err-clause-complete g c sent works =
    let m0 = g.T.Disk.medium c.args.trail.now in
    told_from m0.content _ (λ image is es trail.
    absurd (told_at m0.content _ image is (sound_opened m0 c.in-Err.fault c.in-Err.ensures.damaged (λ failed. works (c.in-Err.ensures.left.fault (ap Err failed))) c.in-Err.ensures.faults) es trail))

pub returns-in-Err-clause-damage : goal.returns-in-Err-clause-damage
returns-in-Err-clause-damage g c =
    let m0 = g.T.Disk.medium c.args.trail.now in
    record {
      found = λ cell is. c.in-Err.ensures.damaged cell (opening_fault c.in-Err.fault (Damaged cell) is);
      judged = λ fell. told_from m0.content _ (λ image is cell damaged. listing_fault c.in-Err.fault (Damaged cell) (told_at m0.content _ image is (c.in-Err.ensures.exact fell) cell damaged));
      unsent = told_from m0.content _ (λ image is cell damaged. refl);
      within = each_within (Err (Trail c.in-Err.fault)) (elim c.in-Err.ensures.faults [ inl failed ↦ inr (inl (ap Trail failed)) | inr named ↦ inr (inr (named.0, named.1, ap Trail named.2)) ]);
    }

pub returns-in-Ok-clause-trail_left : goal.returns-in-Ok-clause-trail_left
returns-in-Ok-clause-trail_left g c =
    let m1 = g.T.Disk.medium c.open_trail.new.trail in
    let m2 = g.T.Disk.medium c.send_records.new.trail in
    let same : m2.content ≡ (g.T.Disk.medium c.args.trail.now).content = c.send_records.ensures.keeps.content ∙ c.in-Ok.ensures.keeps.content in
    record {
      size = c.send_records.ensures.keeps.moments.size ∙ c.in-Ok.ensures.keeps.moments.size;
      still = λ some. subst (λ (o : Option (List ℕ)). IsSome o) (sym same) some;
      settled = λ done. settled_kept m1 m2 c.send_records.ensures.keeps (c.in-Ok.ensures.left.settled refl);
      later = omega (arith, c.in-Ok.ensures.left.later, c.send_records.ensures.trail_left.later);
      fault = λ is. rose_wider _ _ _ _ c.in-Ok.ensures.left.later (c.send_records.ensures.trail_left.later) (omega arith) (c.send_records.ensures.trail_left.fault is);
      quiet = λ none. c.send_records.ensures.trail_left.quiet none ∙ c.in-Ok.ensures.left.quiet (read_no_fault tt DiskFault);
    }

pub returns-in-Err-clause-trail_left : goal.returns-in-Err-clause-trail_left
returns-in-Err-clause-trail_left g c = record {
  size = c.in-Err.ensures.left.size;
  still = c.in-Err.ensures.left.still;
  settled = λ done. absurd (not_done c.in-Err.fault done);
  later = c.in-Err.ensures.left.later;
  fault = λ is. c.in-Err.ensures.left.fault (opening_fault c.in-Err.fault DiskFault is);
  quiet = λ none. c.in-Err.ensures.left.quiet (λ is. none (listing_fault c.in-Err.fault DiskFault is));
}

-- ---- what else is left

pub returns-in-Ok-clause-lines : goal.returns-in-Ok-clause-lines
returns-in-Ok-clause-lines g c =
    told_earlier (g.T.Disk.medium c.args.trail.now) (g.T.Disk.medium c.open_trail.new.trail)
    (λ image. (es : List AnyEntry) → IsTrail image es → Listed es c.send_records.result (g.K.Sink.held c.args.sink.now) (g.K.Sink.held c.send_records.new.sink))
    c.in-Ok.ensures.keeps.content c.send_records.ensures.lines

pub returns-in-Ok-clause-grows : goal.returns-in-Ok-clause-grows
returns-in-Ok-clause-grows g c = c.send_records.ensures.grows

pub returns-in-Ok-clause-keeps : goal.returns-in-Ok-clause-keeps
returns-in-Ok-clause-keeps g c =
    keeps_then (g.T.Disk.medium c.args.trail.now) (g.T.Disk.medium c.open_trail.new.trail) (g.T.Disk.medium c.send_records.new.trail) c.in-Ok.ensures.keeps c.send_records.ensures.keeps

pub returns-in-Ok-clause-sink_left : goal.returns-in-Ok-clause-sink_left
returns-in-Ok-clause-sink_left g c = c.send_records.ensures.sink_left

pub returns-in-Ok-clause-emptied : goal.returns-in-Ok-clause-emptied
returns-in-Ok-clause-emptied g c = c.send_records.ensures.emptied

pub returns-in-Err-clause-grows : goal.returns-in-Err-clause-grows
returns-in-Err-clause-grows g c = grows_none (g.K.Sink.held c.args.sink.now)

pub returns-in-Err-clause-keeps : goal.returns-in-Err-clause-keeps
returns-in-Err-clause-keeps g c = c.in-Err.ensures.keeps

pub returns-in-Err-clause-sink_left : goal.returns-in-Err-clause-sink_left
returns-in-Err-clause-sink_left g c = record { later = omega arith; fault = λ is. absurd (trail_not_write c.in-Err.fault is); quiet = λ none. refl }
