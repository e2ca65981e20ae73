-- A stop of one line is the stop of the run.
use Rattle.std.proofs.Common.{◌≡◌, List, ℕ, Bool, Option, Result, Ok, Err, ap, refl, sym, subst, ◌∙◌, inl, inr, append_assoc, arith}
use Rattle.std.specs.Prelude.{◌⊎◌, ◌≢◌, ◌++◌, ◌↔◌, [], IsTrue, IsOk, IsSome}
use Rattle.device_cells.specs.Faults.{Rose}
use Rattle.device_cells.specs.Medium.{Medium, IsSettled}
use Rattle.device_cells.specs.WhereTold.{WhereTold}
use Rattle.device_cells.proofs.WhereToldLemmas.{told_weaker, told_then, told_same}
use Rattle.std.proofs.lemmas.List.{append-nil}
use Rattle.line_service.specs.Machine.{Machine}
use Rattle.line_service.specs.Sending.{Grows}
use Rattle.line_service.specs.declared.serving.Served.{Served}
use Rattle.line_service.specs.declared.serving.Served.TheVariants.{Replied, Ended}
use Rattle.line_service.specs.declared.stops.Stop.{Stop}
use Rattle.line_service.specs.Stops.{IsLineStop, IsDeskStop, AnswersLines}
use Rattle.line_service.specs.Devices.{Span, Devices, TellsFault, DiskLeft, DevicesLeft}
use Rattle.line_service.specs.declared.stops.Stop.TheVariants.{ReadFault, WriteFault, EntropyFault, ModuleFault, StoreFault, InputLimit}

pub stop_of : (a b : Stop) → ◌≡◌ {A = Result (Unit {0}) Stop} (Err a) (Err b) → a ≡ b
stop_of a b h = cc

pub same_stop : (r : Result Served Stop) (stop other : Stop) → r ≡ Err stop → ◌≡◌ {A = Result (Unit {0}) Stop} (Err stop) (Err other) → r ≡ Err other
same_stop r stop other is h = is ∙ ap Err (stop_of stop other h)

pub stopped_as : (r : Result Served Stop) (stop : Stop) → r ≡ Err stop
    → ◌≡◌ {A = Result (Unit {0}) Stop} (Err stop) (Err ReadFault) ⊎ ◌≡◌ {A = Result (Unit {0}) Stop} (Err stop) (Err InputLimit)
    → (r ≡ Err ReadFault) ⊎ (r ≡ Err InputLimit)
stopped_as r stop is (inl h) = inl (same_stop r stop ReadFault is h)
stopped_as r stop is (inr h) = inr (same_stop r stop InputLimit is h)

-- how lines ended that were served up to a stop
pub by_answer : (r : Result Served Stop) (stop : Stop) → r ≡ Err stop → (P : Type 0) → AnswersLines (Err stop)
    → ((r ≡ Err ReadFault) ⊎ (r ≡ Err InputLimit) → P) → (r ≡ Err WriteFault → P) → P
by_answer r stop is P (inl ok) unread cut = absurd (cc ok)
by_answer r stop is P (inr (inl h)) unread cut = unread (inl (same_stop r stop ReadFault is h))
by_answer r stop is P (inr (inr (inl h))) unread cut = unread (inr (same_stop r stop InputLimit is h))
by_answer r stop is P (inr (inr (inr h))) unread cut = cut (same_stop r stop WriteFault is h)

pub no_stop : ◌≡◌ {A = Result (Unit {0}) Stop} (Ok tt) (Err ReadFault) ⊎ ◌≡◌ {A = Result (Unit {0}) Stop} (Ok tt) (Err InputLimit) → ⊥
no_stop (inl h) = cc h
no_stop (inr h) = cc h

-- where the source gave its end and the call didn't answer that, some byte was ahead
pub not_ended : (a b : Option (List ℕ)) (before now : Bool) (pending : List ℕ) (r : Result Served Stop) (stop : Stop) → r ≡ Err stop → (IsTrue before → IsTrue now)
    → WhereTold a b (λ input rest. (r ≡ Ok Ended) ↔ (IsTrue now × (pending ++ input ≡ [])))
    → WhereTold a b (λ input rest. IsTrue before → pending ++ input ≢ [])
not_ended a b before now pending r stop is still ended =
    told_weaker a b _ _ (λ i x both was none. let at_end : r ≡ Ok Ended = both.1 (still was, none) in cc (at_end, is)) ended

pub grows_on : (a b c : Option (List ℕ)) → WhereTold a b Grows → WhereTold b c Grows → WhereTold a c Grows
grows_on a b c first second =
    told_then a b c Grows Grows Grows
    (λ x y z one more. (one.0 ++ more.0, more.1 ∙ (ap (λ bytes. bytes ++ more.0) one.1 ∙ append_assoc x one.0 more.0))) first second

pub grows_none : (a : Option (List ℕ)) → WhereTold a a Grows
grows_none a = told_same a Grows (λ x. ([], sym (append-nil x)))

-- ---- no reply was sent

pub not_replied : (r : Result Served Stop) (stop : Stop) → r ≡ Err stop → r ≡ Ok Replied → ⊥
not_replied r stop is h = cc (is, h)

pub not_cut : (r : Result Served Stop) → (r ≡ Err ReadFault) ⊎ (r ≡ Err InputLimit) → r ≡ Err WriteFault → ⊥
not_cut r (inl is) h = cc (is, h)
not_cut r (inr is) h = cc (is, h)

pub line_not_cut : (r : Result Served Stop) (stop : Stop) → IsLineStop stop → r ≡ Err stop → r ≡ Err WriteFault → ⊥
line_not_cut r stop kind is h = let same : stop ≡ WriteFault = cc (is, h) in subst IsLineStop same kind

pub ended_unsent : (r : Result Served Stop) → r ≡ Ok Ended → r ≡ Ok Replied → ⊥
ended_unsent r is h = cc (is, h)

pub ended_uncut : (r : Result Served Stop) → r ≡ Ok Ended → r ≡ Err WriteFault → ⊥
ended_uncut r is h = cc (is, h)

-- ---- what is left of the devices

-- a call that succeeds tells no failure
pub ok_no_stop : {T : Type 0} (r : Result T Stop) (stop : Stop) → IsOk r → r ≡ Err stop → ⊥
ok_no_stop {T} r stop ok h = let wrong : IsOk {T = T} (Err stop) = subst (λ (x : Result T Stop). IsOk x) h ok in cc wrong

-- a call ends as one before it did: it tells no more, and the same stop
pub record Follows {T U : Type 0} (r : Result T Stop) (q : Result U Stop) : Type 0 where
  pub ok : IsOk q → IsOk r
  pub stops : (stop : Stop) → q ≡ Err stop → r ≡ Err stop
  pub back : (stop : Stop) → r ≡ Err stop → q ≡ Err stop

-- a stop that is handed on
pub follows_stop : {T U : Type 0} (r : Result T Stop) (stop : Stop) → r ≡ Err stop → Follows {U = U} r (Err stop)
follows_stop r stop is = record {
  ok = λ ok. absurd (cc ok);
  stops = λ other h. let same : stop ≡ other = cc h in is ∙ ap Err same;
  back = λ other h. let same : stop ≡ other = cc (is, h) in ap Err same;
}

pub follows_ok : {T U : Type 0} (r : Result T Stop) (value : T) (q : Result U Stop) → r ≡ Ok value → IsOk q → Follows r q
follows_ok r value q is done = record {
  ok = λ ok. subst IsOk (sym is) refl;
  stops = λ stop h. absurd (ok_no_stop q stop done h);
  back = λ stop h. absurd (cc (is, h));
}

module _ {T U : Type 0} (r : Result T Stop) (q : Result U Stop) (follows : Follows r q) where
  pub disk_as : (old new : Medium) (before now : ℕ) (stop : Stop) → DiskLeft old new before now (IsOk r) (r ≡ Err stop) → DiskLeft old new before now (IsOk q) (q ≡ Err stop)
  disk_as old new before now stop left = record {
    size = left.size;
    still = left.still;
    settled = λ ok. left.settled (follows.ok ok);
    later = left.later;
    fault = λ h. left.fault (follows.stops stop h);
    quiet = λ none. left.quiet (λ h. none (follows.back stop h));
  }

  pub count_as : (before now : ℕ) (stop : Stop) → TellsFault before now (r ≡ Err stop) → TellsFault before now (q ≡ Err stop)
  count_as before now stop left = record {
    later = left.later;
    fault = λ h. left.fault (follows.stops stop h);
    quiet = λ none. left.quiet (λ h. none (follows.back stop h));
  }

  pub devices_as : (A : Machine) (d : Span Devices) → DevicesLeft r d → DevicesLeft q d
  devices_as A d left = record {
    module_left = disk_as d.old.world.module_ d.new.world.module_ d.old.module_faults d.new.module_faults ModuleFault left.module_left;
    store_left = disk_as d.old.world.store d.new.world.store d.old.store_faults d.new.store_faults StoreFault left.store_left;
    entropy_left = count_as d.old.entropy_faults d.new.entropy_faults EntropyFault left.entropy_left;
  }

pub devices_stopped : {T U : Type 0} (A : Machine) (stop : Stop) (d : Span Devices) → DevicesLeft {T = T} (Err stop) d → DevicesLeft {T = U} (Err stop) d
devices_stopped {T} {U} A stop d left = devices_as (Err stop) (Err stop) (follows_stop {T = T} {U = U} (Err stop) stop refl) A d left

-- what a call leaves that comes after others, which left the count as it was
pub count_on : (before mid now : ℕ) (failed : Type 0) → mid ≡ before → TellsFault mid now failed → TellsFault before now failed
count_on before mid now failed same left = record {
  later = omega (arith, same, left.later);
  fault = λ h. subst (λ (n : ℕ). Rose n now) same (left.fault h);
  quiet = λ none. left.quiet none ∙ same;
}

pub disk_on : (m0 m1 m2 : Medium) (before mid now : ℕ) (done failed : Type 0) → m1.size ≡ m0.size → (IsSome m0.content → IsSome m1.content) → mid ≡ before
    → DiskLeft m1 m2 mid now done failed → DiskLeft m0 m2 before now done failed
disk_on m0 m1 m2 before mid now done failed size still same left = record {
  size = left.size ∙ size;
  still = λ some. left.still (still some);
  settled = left.settled;
  later = omega (arith, same, left.later);
  fault = λ h. subst (λ (n : ℕ). Rose n now) same (left.fault h);
  quiet = λ none. left.quiet none ∙ same;
}

-- the device wasn't called
pub count_still : (count : ℕ) (failed : Type 0) → (failed → ⊥) → TellsFault count count failed
count_still count failed never = record { later = omega arith; fault = λ h. absurd (never h); quiet = λ none. refl }

pub disk_still : (m : Medium) (count : ℕ) (done failed : Type 0) → (done → IsSettled m) → (failed → ⊥) → DiskLeft m m count count done failed
disk_still m count done failed settled never = record {
  size = refl;
  still = λ some. some;
  settled = settled;
  later = omega arith;
  fault = λ h. absurd (never h);
  quiet = λ none. refl;
}

pub no_desk_write : {T : Type 0} (stop : Stop) → IsDeskStop stop → ◌≡◌ {A = Result T Stop} (Err stop) (Err WriteFault) → ⊥
no_desk_write stop kind h = let same : stop ≡ WriteFault = cc h in subst IsDeskStop same kind

-- an input that is too long isn't one that failed
pub over_not_unread : ◌≡◌ {A = Result Served Stop} (Err InputLimit) (Err ReadFault) → ⊥
over_not_unread is = cc is
