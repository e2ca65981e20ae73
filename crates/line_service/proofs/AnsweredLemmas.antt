-- What a line leaves of the devices, by whether it was answered.
use Rattle.std.proofs.Common.{◌≡◌, ◌≤◌, ◌++◌, ℕ, List, Option, Result, Ok, Err, ap, refl, inl, inr, ⊎_elim}
use Rattle.std.specs.Prelude.{◌⊎◌}
use Rattle.device_cells.specs.Faults.{Rose}
use Rattle.device_cells.specs.Medium.{Medium, IsSettled}
use Rattle.device_cells.specs.WhereTold.{WhereTold}
use Rattle.device_cells.proofs.WhereToldLemmas.{told_weaker}
use Rattle.line_service.specs.Devices.{Span, DamageSpares, Devices, DevicesLeft, Outside, OutsideLeft, TellsFault, Undamaged, behind, outside}
use Rattle.line_service.specs.Machine.{Machine}
use Rattle.line_service.specs.Running.{Unmoved}
use Rattle.line_service.specs.Sending.{GotPart}
use Rattle.line_service.specs.Stops.{IsDeskStop, IsUnanswered}
use Rattle.line_service.specs.declared.serving.Served.{Served}
use Rattle.line_service.specs.declared.serving.Served.TheVariants.{Replied}
use Rattle.line_service.specs.declared.stops.Device.{Device}
use Rattle.line_service.specs.declared.stops.Device.TheVariants.{Module}
use Rattle.line_service.specs.declared.stops.Stop.{Stop}
use Rattle.line_service.specs.declared.stops.Stop.TheVariants.{ReadFault, WriteFault, InputLimit, Damaged}
use Rattle.line_service.proofs.StopLemmas.{devices_stopped, disk_still, count_still, grows_none, no_desk_write}
use Rattle.line_service.proofs.TakenLemmas.{answered_replied, answered_cut, answered_stop}

-- a stop is handed on
pub handed_on : {T U : Type 0} (stop other : Stop) → ◌≡◌ {A = Result T Stop} (Err stop) (Err other) → ◌≡◌ {A = Result U Stop} (Err stop) (Err other)
handed_on stop other h = let same : stop ≡ other = cc h in ap Err same

-- ---- no line was answered

unanswered_stop : (q : Result Served Stop) → IsUnanswered q → (stop : Stop) → q ≡ Err stop → (stop ≡ ReadFault) ⊎ (stop ≡ InputLimit)
unanswered_stop q (inl is) stop h = absurd (cc (is, h))
unanswered_stop q (inr (inl is)) stop h = inl (cc (is, h))
unanswered_stop q (inr (inr is)) stop h = inr (cc (is, h))

pub unanswered_uncut : (q : Result Served Stop) → IsUnanswered q → q ≡ Err WriteFault → ⊥
unanswered_uncut q (inl ended) is = cc (ended, is)
unanswered_uncut q (inr (inl unread)) is = cc (unread, is)
unanswered_uncut q (inr (inr over)) is = cc (over, is)

-- no device behind the machine was called
pub devices_untouched : (now : Devices) (q : Result Served Stop) → IsUnanswered q → IsSettled now.world.module_ → IsSettled now.world.store → DevicesLeft q (record { old = now; new = now })
devices_untouched now q unanswered m d = record {
  module_left = disk_still now.world.module_ now.module_faults _ _ (λ ok. m) (λ h. ⊎_elim (λ is. cc is) (λ is. cc is) (unanswered_stop q unanswered _ h));
  store_left = disk_still now.world.store now.store_faults _ _ (λ ok. d) (λ h. ⊎_elim (λ is. cc is) (λ is. cc is) (unanswered_stop q unanswered _ h));
  entropy_left = count_still now.entropy_faults _ (λ h. ⊎_elim (λ is. cc is) (λ is. cc is) (unanswered_stop q unanswered _ h));
}

pub undamaged_untouched : (A : Machine) (old : Devices) (q : Result Served Stop) → IsUnanswered q → Undamaged A q old
undamaged_untouched A old q unanswered = record {
  module_sound = λ cell h. absurd (never h);
  store_sound = λ cell h. absurd (never h);
  cells = λ device cell h. absurd (never h);
  reread = λ device cell h. absurd (never h);
}
  where
    never : {device : Device} {cell : ℕ} → q ≡ Err (Damaged device cell) → ⊥
    never h = ⊎_elim (λ is. cc is) (λ is. cc is) (unanswered_stop q unanswered _ h)

-- nothing but the source was called
pub outside_untouched : (now : Devices) (a b p : Option (List ℕ)) (reads reads1 writes : ℕ) (q : Result Served Stop) → IsUnanswered q → IsSettled now.world.module_ → IsSettled now.world.store
    → TellsFault reads reads1 (q ≡ Err ReadFault) → OutsideLeft q (record { old = outside a reads p writes now; new = outside b reads1 p writes now })
outside_untouched now a b p reads reads1 writes q unanswered m d source = record {
  devices_left = devices_untouched now q unanswered m d;
  source_left = source;
  sink_left = count_still writes _ (unanswered_uncut q unanswered);
  sink_grows = grows_none p;
}

pub unmoved_untouched : {K M D E A : Type 0} (q : Result Served Stop) (sink : K) (m : M) (d : D) (e : E) (a : A) → Unmoved q sink sink m m d d e e a a
unmoved_untouched q sink m d e a = record {
  sink_unmoved = λ unreplied uncut. refl;
  module_unmoved = λ h. refl;
  store_unmoved = λ h. refl;
  entropy_unmoved = λ h. refl;
  desk_unmoved = λ h. refl;
}

-- ---- a line was answered

-- the source gave a line
pub source_read : (before now : ℕ) (q : Result Served Stop) → (IsUnanswered q → ⊥) → before ≤ now → now ≡ before → TellsFault before now (q ≡ Err ReadFault)
source_read before now q answered later same = record { later = later; fault = λ h. absurd (answered (inr (inl h))); quiet = λ none. same }

unmoved_answered : {K M D E A : Type 0} (q : Result Served Stop) → (IsUnanswered q → ⊥) → (sink sink1 : K) (m m1 : M) (d d1 : D) (e e1 : E) (a a1 : A)
    → ((q ≡ Ok Replied → ⊥) → (q ≡ Err WriteFault → ⊥) → sink1 ≡ sink) → Unmoved q sink sink1 m m1 d d1 e e1 a a1
unmoved_answered q answered sink sink1 m m1 d d1 e e1 a a1 unsent = record {
  sink_unmoved = unsent;
  module_unmoved = λ h. absurd (answered h);
  store_unmoved = λ h. absurd (answered h);
  entropy_unmoved = λ h. absurd (answered h);
  desk_unmoved = λ h. absurd (answered h);
}

module _ {K M D E A : Type 0} (sink sink1 : K) (m m1 : M) (d d1 : D) (e e1 : E) (a a1 : A) where
  pub unmoved_replied : Unmoved (Ok Replied) sink sink1 m m1 d d1 e e1 a a1
  unmoved_replied = unmoved_answered (Ok Replied) answered_replied sink sink1 m m1 d d1 e e1 a a1 (λ unreplied uncut. absurd (unreplied refl))

  pub unmoved_cut : Unmoved (Err WriteFault) sink sink1 m m1 d d1 e e1 a a1
  unmoved_cut = unmoved_answered (Err WriteFault) answered_cut sink sink1 m m1 d d1 e e1 a a1 (λ unreplied uncut. absurd (uncut refl))

  pub unmoved_stopped : (stop : Stop) → IsDeskStop stop → Unmoved (Err stop) sink sink m m1 d d1 e e1 a a1
  unmoved_stopped stop kind = unmoved_answered (Err stop) (answered_stop stop kind) sink sink m m1 d d1 e e1 a a1 (λ unreplied uncut. refl)

-- a stop that a sent line has is that of the sink
abbrev pub OfSink : Result Served Stop → Type 0
OfSink q = (stop : Stop) → q ≡ Err stop → stop ≡ WriteFault

pub replied_of_sink : OfSink (Ok Replied)
replied_of_sink stop h = absurd (cc h)

pub cut_of_sink : OfSink (Err WriteFault)
cut_of_sink stop h = cc h

-- the devices are left as by the call that answered
pub devices_answered : (d : Span Devices) (q : Result Served Stop) → OfSink q → DevicesLeft {T = Unit {0}} (Ok tt) d → DevicesLeft q d
devices_answered d q of_sink left = record {
  module_left = record {
    size = left.module_left.size;
    still = left.module_left.still;
    settled = λ ok. left.module_left.settled refl;
    later = left.module_left.later;
    fault = λ h. absurd (cc (of_sink _ h));
    quiet = λ none. left.module_left.quiet (λ h. cc h);
  };
  store_left = record {
    size = left.store_left.size;
    still = left.store_left.still;
    settled = λ ok. left.store_left.settled refl;
    later = left.store_left.later;
    fault = λ h. absurd (cc (of_sink _ h));
    quiet = λ none. left.store_left.quiet (λ h. cc h);
  };
  entropy_left = record {
    later = left.entropy_left.later;
    fault = λ h. absurd (cc (of_sink _ h));
    quiet = λ none. left.entropy_left.quiet (λ h. cc h);
  };
}

pub undamaged_answered : (A : Machine) (old : Devices) (q : Result Served Stop) → OfSink q → Undamaged A q old
undamaged_answered A old q of_sink = record {
  module_sound = λ cell h. absurd (cc (of_sink _ h));
  store_sound = λ cell h. absurd (cc (of_sink _ h));
  cells = λ device cell h. absurd (cc (of_sink _ h));
  reread = λ device cell h. absurd (cc (of_sink _ h));
}

-- what is left where no device was called
pub undamaged_done : (A : Machine) (old : Devices) → Undamaged {T = Unit {0}} A (Ok tt) old
undamaged_done A old = record {
  module_sound = λ cell h. absurd (cc h);
  store_sound = λ cell h. absurd (cc h);
  cells = λ device cell h. absurd (cc h);
  reread = λ device cell h. absurd (cc h);
}

pub devices_done : (now : Devices) → IsSettled now.world.module_ → IsSettled now.world.store → DevicesLeft {T = Unit {0}} (Ok tt) (record { old = now; new = now })
devices_done now m d = record {
  module_left = disk_still now.world.module_ now.module_faults _ _ (λ ok. m) (λ h. cc h);
  store_left = disk_still now.world.store now.store_faults _ _ (λ ok. d) (λ h. cc h);
  entropy_left = count_still now.entropy_faults _ (λ h. cc h);
}

pub undamaged_stopped : (A : Machine) (old : Devices) (stop : Stop) → Undamaged {T = Unit {0}} A (Err stop) old → Undamaged {T = Served} A (Err stop) old
undamaged_stopped A old stop undamaged = record {
  module_sound = λ cell h. undamaged.module_sound cell (handed_on {T = Served} {U = Unit {0}} stop _ h);
  store_sound = λ cell h. undamaged.store_sound cell (handed_on {T = Served} {U = Unit {0}} stop _ h);
  cells = λ device cell h. undamaged.cells device cell (handed_on {T = Served} {U = Unit {0}} stop _ h);
  reread = λ device cell h. undamaged.reread device cell (handed_on {T = Served} {U = Unit {0}} stop _ h);
}

-- and so is all that is outside, by what the sink got
module _ (o : Span Outside) (later : o.old.source_faults ≤ o.new.source_faults) (quiet : o.new.source_faults ≡ o.old.source_faults) where
  module _ (left : DevicesLeft {T = Unit {0}} (Ok tt) (behind o)) (sent : o.old.sink_faults ≤ o.new.sink_faults) (piece : List ℕ) where
    pub outside_replied : o.new.sink_faults ≡ o.old.sink_faults → WhereTold o.old.output o.new.output (λ x y. y ≡ x ++ piece) → OutsideLeft {T = Served} (Ok Replied) o
    outside_replied none all = record {
      devices_left = devices_answered (behind o) (Ok Replied) replied_of_sink left;
      source_left = source_read o.old.source_faults o.new.source_faults (Ok Replied) answered_replied later quiet;
      sink_left = record { later = sent; fault = λ h. absurd (cc h); quiet = λ h. none };
      sink_grows = told_weaker o.old.output o.new.output _ _ (λ x y is. (piece, is)) all;
    }

    pub outside_cut : Rose o.old.sink_faults o.new.sink_faults → WhereTold o.old.output o.new.output (λ x y. GotPart x y piece) → OutsideLeft {T = Served} (Err WriteFault) o
    outside_cut failed part = record {
      devices_left = devices_answered (behind o) (Err WriteFault) cut_of_sink left;
      source_left = source_read o.old.source_faults o.new.source_faults (Err WriteFault) answered_cut later quiet;
      sink_left = record { later = sent; fault = λ h. failed; quiet = λ h. absurd (h refl) };
      sink_grows = told_weaker o.old.output o.new.output _ _ (λ x y got. (got.sent, got.held)) part;
    }

-- the sink wasn't called
pub outside_stopped : (A : Machine) (stop : Stop) → IsDeskStop stop → (d : Span Devices) (a b p : Option (List ℕ)) (reads reads1 writes : ℕ) → reads ≤ reads1 → reads1 ≡ reads
    → DevicesLeft {T = Unit {0}} (Err stop) d → OutsideLeft {T = Served} (Err stop) (record { old = outside a reads p writes d.old; new = outside b reads1 p writes d.new })
outside_stopped A stop kind d a b p reads reads1 writes later quiet left = record {
  devices_left = devices_stopped A stop d left;
  source_left = source_read reads reads1 (Err stop) (answered_stop stop kind) later quiet;
  sink_left = count_still writes _ (no_desk_write stop kind);
  sink_grows = grows_none p;
}

-- ---- where a cell turned out damaged

-- none did
pub spares_else : {T D E : Type 0} {m0 m1 : Medium} {d0 d1 : D} {e0 e1 : E} (r : Result T Stop) → ((device : Device) (cell : ℕ) → r ≡ Err (Damaged device cell) → ⊥) → DamageSpares r m0 m1 d0 d1 e0 e1
spares_else r never = record {
  undrawn = λ device cell h. absurd (never device cell h);
  module_kept = λ device cell h. absurd (never device cell h);
  store_uncalled = λ cell h. absurd (never Module cell h);
}

pub done_undamaged : {T : Type 0} (x : T) (device : Device) (cell : ℕ) → ◌≡◌ {A = Result T Stop} (Ok x) (Err (Damaged device cell)) → ⊥
done_undamaged x device cell h = cc h

pub cut_undamaged : {T : Type 0} (device : Device) (cell : ℕ) → ◌≡◌ {A = Result T Stop} (Err WriteFault) (Err (Damaged device cell)) → ⊥
cut_undamaged device cell h = cc h

pub unanswered_undamaged : (q : Result Served Stop) → IsUnanswered q → (device : Device) (cell : ℕ) → q ≡ Err (Damaged device cell) → ⊥
unanswered_undamaged q unanswered device cell h = ⊎_elim (λ is. cc is) (λ is. cc is) (unanswered_stop q unanswered _ h)

-- the stop of a call is handed on
pub spares_on : {T U D E : Type 0} {m0 m1 : Medium} {d0 d1 : D} {e0 e1 : E} (stop : Stop) → DamageSpares {T = T} (Err stop) m0 m1 d0 d1 e0 e1 → DamageSpares {T = U} (Err stop) m0 m1 d0 d1 e0 e1
spares_on {T} {U} stop spares = record {
  undrawn = λ device cell h. spares.undrawn device cell (handed_on {T = U} {U = T} stop _ h);
  module_kept = λ device cell h. spares.module_kept device cell (handed_on {T = U} {U = T} stop _ h);
  store_uncalled = λ cell h. spares.store_uncalled cell (handed_on {T = U} {U = T} stop _ h);
}
