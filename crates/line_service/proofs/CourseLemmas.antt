-- How far a run has come, and what it leaves at its last line.
use Rattle.std.proofs.Common.{◌≡◌, ◌+◌, ◌++◌, ◌<◌, ◌≤◌, ℕ, List, Option, None, Some, Result, Ok, Err, length, ap, refl, sym, subst, ◌∙◌, inl, inr, arith}
use Rattle.std.specs.Prelude.{◌⊎◌, IsTrue, IsSome, IfSome, IsOk}
use Rattle.std.specs.Io.KnownBytes.{IsAtEnd}
use Rattle.device_cells.specs.Medium.{Medium, IsSettled}
use Rattle.device_cells.specs.WhereTold.{WhereTold}
use Rattle.device_cells.proofs.WhereToldLemmas.{told_weaker}
use Rattle.line_service.specs.Reading.{Reading, blank, input_limit}
use Rattle.line_service.specs.Machine.{Machine, World, world}
use Rattle.line_service.specs.Answering.{Stands}
use Rattle.line_service.specs.Devices.{Span, Outside, BothSettled, DevicesLeft, OutsideLeft, Undamaged, behind}
use Rattle.line_service.specs.Running.{EachReplied, InputTaken, LineLeaves, LineTaken, LinesLeft, RunLeaves, Unmoved}
use Rattle.line_service.specs.Sending.{GotReply, Grows}
use Rattle.line_service.specs.Serving.{AllAnswered, WholeLinesAnswered, LineLost, AtRest, SparesAlways, RunServed}
use Rattle.line_service.specs.Stops.{AnswersLines, IsLineStop, IsUnanswered}
use Rattle.line_service.specs.declared.stops.Device.TheVariants.{Module, Store}
use Rattle.line_service.specs.declared.serving.Served.{Served}
use Rattle.line_service.specs.declared.serving.Served.TheVariants.{Replied, Ended}
use Rattle.line_service.specs.declared.stops.Stop.{Stop}
use Rattle.line_service.specs.declared.stops.Stop.TheVariants.{ReadFault, WriteFault, EntropyFault, ModuleFault, StoreFault, InputLimit, Damaged}
use Rattle.line_service.proofs.RepliedLemmas.{HasReplied, replied_all, replied_more, replied_none}
use Rattle.line_service.proofs.RunLemmas.{limit_is}
use Rattle.line_service.proofs.SessionLemmas.{HasServed, has_served_all, has_served_whole, has_served_cut, has_served_lost, module_moments, store_moments, cut_at_rest, at_rest_now, counted_on, counted_nothing, blank_open, blank_within}
use Rattle.line_service.proofs.SpareLaws.{SparesSo, spares_last, spares_always}
use Rattle.line_service.proofs.StopLemmas.{Follows, ok_no_stop, count_as, devices_as, count_on, disk_on, by_answer, same_stop, stopped_as, no_stop, not_ended, grows_on, grows_none, not_replied, not_cut, line_not_cut, ended_unsent, ended_uncut}

-- ---- small facts

at_limit : (taken rest all limit : ℕ) → taken + rest ≡ all → taken ≡ limit → all ≡ rest + limit
at_limit taken rest all limit sum is = omega (arith, sum, is)

below_limit : (taken rest all limit : ℕ) → taken + rest ≡ all → taken < limit → all < rest + limit
below_limit taken rest all limit sum below = omega (arith, sum, below)

up_to_limit : (taken rest all limit : ℕ) → taken + rest ≡ all → taken ≤ limit → all ≤ rest + limit
up_to_limit taken rest all limit sum within = omega (arith, sum, within)

-- what a disk that told its bytes still tells
never_still : (a b : Option (List ℕ)) (P : List ℕ → Type 0) → (IsSome a → IsSome b) → IfSome b (λ c. ⊥) → IfSome a P
never_still None b P still never = tt
never_still (Some x) (Some y) P still never = absurd never
never_still (Some x) None P still never = absurd (cc (still refl))

never_both_still : (a b c d : Option (List ℕ)) (P : List ℕ → List ℕ → Type 0) → (IsSome a → IsSome b) → (IsSome c → IsSome d)
    → IfSome b (λ x. IfSome d (λ y. ⊥)) → IfSome a (λ x. IfSome c (P x))
never_both_still None b c d P still still' never = tt
never_both_still (Some x) (Some y) c d P still still' never = never_still c d (P x) still' never
never_both_still (Some x) None c d P still still' never = absurd (cc (still refl))

-- ---- whatever the disks hold

-- how all that is outside has come from its start, beside the reading of lines
pub record IsOnCourse (start now : Outside) (reading : Reading) : Type 0 where
  pub module_settled : IsSettled now.devices.world.module_
  pub store_settled : IsSettled now.devices.world.store
  pub module_size : now.devices.world.module_.size ≡ start.devices.world.module_.size
  pub store_size : now.devices.world.store.size ≡ start.devices.world.store.size
  pub module_still : IsSome start.devices.world.module_.content → IsSome now.devices.world.module_.content
  pub store_still : IsSome start.devices.world.store.content → IsSome now.devices.world.store.content
  pub counted : WhereTold start.input now.input (λ input rest. reading.taken + length rest ≡ length input)
  pub each : WhereTold start.input now.input (λ input rest. HasReplied input (reading.pending ++ rest) start.output now.output)
  pub within : reading.taken ≤ input_limit
  pub at_end : IsTrue reading.ended → IsAtEnd now.input
  pub sink_grows : WhereTold start.output now.output Grows
  pub reads_quiet : now.source_faults ≡ start.source_faults
  pub writes_quiet : now.sink_faults ≡ start.sink_faults
  pub module_quiet : now.devices.module_faults ≡ start.devices.module_faults
  pub store_quiet : now.devices.store_faults ≡ start.devices.store_faults
  pub entropy_quiet : now.devices.entropy_faults ≡ start.devices.entropy_faults

pub course_begins : (now : Outside) (reading : Reading) → reading ≡ blank → IsSettled now.devices.world.module_ → IsSettled now.devices.world.store → IsOnCourse now now reading
course_begins now reading fresh module_settled store_settled = record {
  module_settled = module_settled;
  store_settled = store_settled;
  module_size = refl;
  store_size = refl;
  module_still = λ h. h;
  store_still = λ h. h;
  counted = counted_nothing now.input reading fresh;
  each = replied_none reading now.input now.output fresh;
  within = blank_within reading fresh;
  at_end = λ ended. absurd (blank_open reading fresh ended);
  sink_grows = grows_none now.output;
  reads_quiet = refl;
  writes_quiet = refl;
  module_quiet = refl;
  store_quiet = refl;
  entropy_quiet = refl;
}

module _ (A : Machine) (start : Outside) (o : Span Outside) (old : Reading) (course : IsOnCourse start o.old old) where
  pub course_goes_on : (new : Reading) (result : Result Served Stop) → result ≡ Ok Replied → LineTaken result o old new → WhereTold o.old.output o.new.output GotReply → OutsideLeft result o
      → IsOnCourse start o.new new
  course_goes_on new result replied taken got left = let ok = subst IsOk (sym replied) refl in record {
    module_settled = left.devices_left.module_left.settled ok;
    store_settled = left.devices_left.store_left.settled ok;
    module_size = left.devices_left.module_left.size ∙ course.module_size;
    store_size = left.devices_left.store_left.size ∙ course.store_size;
    module_still = λ h. left.devices_left.module_left.still (course.module_still h);
    store_still = λ h. left.devices_left.store_left.still (course.store_still h);
    counted = counted_on start.input o.old.input o.new.input old.taken new.taken course.counted taken.counted;
    each = replied_more start o old new result taken course.each replied got;
    within = taken.within;
    at_end = taken.at_end;
    sink_grows = grows_on start.output o.old.output o.new.output course.sink_grows left.sink_grows;
    reads_quiet = left.source_left.quiet (ok_no_stop result ReadFault ok) ∙ course.reads_quiet;
    writes_quiet = left.sink_left.quiet (ok_no_stop result WriteFault ok) ∙ course.writes_quiet;
    module_quiet = left.devices_left.module_left.quiet (ok_no_stop result ModuleFault ok) ∙ course.module_quiet;
    store_quiet = left.devices_left.store_left.quiet (ok_no_stop result StoreFault ok) ∙ course.store_quiet;
    entropy_quiet = left.devices_left.entropy_left.quiet (ok_no_stop result EntropyFault ok) ∙ course.entropy_quiet;
  }

  module _ (result : Result Served Stop) (q : Result (Unit {0}) Stop) where
    -- the run ends as its last line did
    pub course_left : Follows result q → OutsideLeft result o → OutsideLeft q (record { old = start; new = o.new })
    course_left follows left =
        let devices : DevicesLeft q (behind o) = devices_as result q follows A (behind o) left.devices_left in
        record {
          devices_left = record {
            module_left = disk_on _ _ _ _ _ _ _ _ course.module_size course.module_still course.module_quiet devices.module_left;
            store_left = disk_on _ _ _ _ _ _ _ _ course.store_size course.store_still course.store_quiet devices.store_left;
            entropy_left = count_on _ _ _ _ course.entropy_quiet devices.entropy_left;
          };
          source_left = count_on _ _ _ _ course.reads_quiet (count_as result q follows o.old.source_faults o.new.source_faults ReadFault left.source_left);
          sink_left = count_on _ _ _ _ course.writes_quiet (count_as result q follows o.old.sink_faults o.new.sink_faults WriteFault left.sink_left);
          sink_grows = grows_on start.output o.old.output o.new.output course.sink_grows left.sink_grows;
        }

    -- how far the input was taken since the start
    module _ (new : Reading) (taken : LineTaken result o old new) where
      counted_now : WhereTold start.input o.new.input (λ i r. new.taken + length r ≡ length i)
      counted_now = counted_on start.input o.old.input o.new.input old.taken new.taken course.counted taken.counted

      pub course_within : WhereTold start.input o.new.input (λ i r. length i ≤ length r + input_limit)
      course_within = told_weaker start.input o.new.input _ _ (λ i r sum. up_to_limit new.taken (length r) (length i) input_limit sum taken.within) counted_now

      pub course_taken : Follows result q → (IsOk q → result ≡ Ok Ended) → InputTaken q (record { old = start; new = o.new })
      course_taken follows ended = record {
        at_end = λ ok. taken.at_end (taken.ends (ended ok));
        limit = limit_is q start.input o.new.input
            (told_weaker start.input o.new.input _ _ (λ i r sum h. at_limit new.taken (length r) (length i) input_limit sum (taken.full (follows.stops InputLimit h))) counted_now)
            (told_weaker start.input o.new.input _ _ (λ i r sum ok. below_limit new.taken (length r) (length i) input_limit sum (taken.short (inr (ended ok)))) counted_now);
        within = course_within;
      }

    -- lines that were answered up to this leave nothing unsynced
    module _ (unanswered : IsUnanswered result → o.new.devices.world ≡ o.old.devices.world) (cut : result ≡ Err WriteFault → BothSettled o.new.devices)
        (left : OutsideLeft result o) where
      settled_still : IsUnanswered result → BothSettled o.new.devices
      settled_still none = record {
        module_settled = subst (λ (w : World). IsSettled w.module_) (sym (unanswered none)) course.module_settled;
        store_settled = subst (λ (w : World). IsSettled w.store) (sym (unanswered none)) course.store_settled;
      }

      pub course_settled : Follows result q → AnswersLines q → BothSettled o.new.devices
      course_settled follows (inl ok) = record {
        module_settled = left.devices_left.module_left.settled (follows.ok ok);
        store_settled = left.devices_left.store_left.settled (follows.ok ok);
      }
      course_settled follows (inr (inl h)) = settled_still (inr (inl (follows.stops ReadFault h)))
      course_settled follows (inr (inr (inl h))) = settled_still (inr (inr (follows.stops InputLimit h)))
      course_settled follows (inr (inr (inr h))) = cut (follows.stops WriteFault h)

    -- a disk that told its bytes at the start tells them still
    pub course_undamaged : Follows result q → Undamaged A result o.old.devices → Undamaged A q start.devices
    course_undamaged follows here = record {
      module_sound = λ cell h. never_still start.devices.world.module_.content o.old.devices.world.module_.content (λ c. ⊥) course.module_still (here.module_sound cell (follows.stops (Damaged Module cell) h));
      store_sound = λ cell h.
          never_both_still start.devices.world.module_.content o.old.devices.world.module_.content start.devices.world.store.content o.old.devices.world.store.content (λ c d. ⊥)
          course.module_still course.store_still (here.store_sound cell (follows.stops (Damaged Store cell) h));
      cells = λ device cell h. here.cells device cell (follows.stops (Damaged device cell) h);
      reread = λ device cell h. here.reread device cell (follows.stops (Damaged device cell) h);
    }

  -- each line has its reply
  pub course_each : (new : Reading) (result : Result Served Stop) → LineTaken result o old new → (done failed : Type 0) → (done → result ≡ Ok Ended)
      → ((failed → ⊥) → o.new.output ≡ o.old.output) → WhereTold start.input o.new.input (λ i r. EachReplied done failed i start.output o.new.output)
  course_each new result taken = replied_all start o old new result taken course.each

  -- what the run leaves, by what its last line left
  pub lines_left : (K : A.State → Type 0) (new : Reading) (result : Result Served Stop) (q : Result (Unit {0}) Stop) → Follows result q → (IsOk q → result ≡ Ok Ended)
      → ((s : A.State) → Stands A s K start.devices.world.module_ start.devices.world.store → RunLeaves A s q (record { old = start; new = o.new }))
      → LineTaken result o old new → ((q ≡ Err WriteFault → ⊥) → o.new.output ≡ o.old.output) → (IsUnanswered result → o.new.devices.world ≡ o.old.devices.world)
      → (result ≡ Err WriteFault → BothSettled o.new.devices) → Undamaged A result o.old.devices → OutsideLeft result o → LinesLeft A K q (record { old = start; new = o.new })
  lines_left K new result q follows ended serves taken unsent unanswered cut undamaged left = record {
    serves = serves;
    taken = course_taken result q new taken follows ended;
    each = course_each new result taken (IsOk q) (q ≡ Err WriteFault) ended unsent;
    settled = course_settled result q unanswered cut left follows;
    undamaged = course_undamaged result q follows undamaged;
    left = course_left result q follows left;
  }

-- ---- from the state for which the disks stand

-- where no line was answered, disks and random source show what they did
pub unmoved_world : {K M D E T : Type 0} (fm : M → Medium) (fd : D → Medium) (fe : E → Option (List ℕ)) (result : Result Served Stop)
    (k k1 : K) (m m1 : M) (d d1 : D) (e e1 : E) (t t1 : T) → Unmoved result k k1 m m1 d d1 e e1 t t1
    → IsUnanswered result → world (fm m1) (fd d1) (fe e1) ≡ world (fm m) (fd d) (fe e)
unmoved_world fm fd fe result k k1 m m1 d d1 e e1 t t1 unmoved none =
    ap (λ x. world (fm x) (fd d1) (fe e1)) (unmoved.module_unmoved none)
    ∙ (ap (λ x. world (fm m) (fd x) (fe e1)) (unmoved.store_unmoved none) ∙ ap (λ x. world (fm m) (fd d) (fe x)) (unmoved.entropy_unmoved none))

module _ (A : Machine) (s : A.State) (K K1 : A.State → Type 0) (start : Outside) (o : Span Outside) (old new : Reading) (result : Result Served Stop) where
  abbrev w0 : World
  w0 = start.devices.world

  abbrev w : World
  w = o.old.devices.world

  abbrev w1 : World
  w1 = o.new.devices.world

  -- one line more, after those that were served since the start
  pub record IsNextLine : Type 1 where
    pub served : HasServed A s K w0 w start.input o.old.input start.output o.old.output old
    pub spares : SparesSo w0 w
    pub stands : (t : A.State) × Stands A t K w.module_ w.store
    pub taken : LineTaken result o old new
    pub leaves : (t : A.State) → Stands A t K w.module_ w.store → LineLeaves A t K1 result o old new
    pub unanswered : IsUnanswered result → w1 ≡ w
    pub unsent : (result ≡ Ok Replied → ⊥) → (result ≡ Err WriteFault → ⊥) → o.new.output ≡ o.old.output

  module _ (next : IsNextLine) where
    line_lost : (stop : Stop) → IsLineStop stop → result ≡ Err stop → WhereTold start.input o.new.input (λ i r. LineLost A stop s w0.random w1 i start.output o.new.output)
    line_lost stop kind is =
        subst (λ (x : Option (List ℕ)). WhereTold start.input o.new.input (λ i r. LineLost A stop s w0.random w1 i start.output x))
        (sym (next.unsent (not_replied result stop is) (line_not_cut result stop kind is)))
        (has_served_lost A s K K1 w0 w w1 start.input o.old.input o.new.input start.output o.old.output o.new.output old new _ result next.served next.taken.counted next.leaves stop kind is)

    all_answered : result ≡ Ok Ended → WhereTold start.input o.new.input (λ i r. AllAnswered A s w0.random w1 i start.output o.new.output)
    all_answered ended =
        subst (λ (x : Option (List ℕ)). WhereTold start.input o.new.input (λ i r. AllAnswered A s w0.random w1 i start.output x))
        (sym (next.unsent (ended_unsent result ended) (ended_uncut result ended)))
        (subst (λ (x : World). WhereTold start.input o.new.input (λ i r. AllAnswered A s w0.random x i start.output o.old.output)) (sym (next.unanswered (inl ended)))
        (has_served_all A s K w0 w start.input o.old.input o.new.input start.output o.old.output old new next.served (next.taken.all_taken ended)))

    whole_answered : (stop : Stop) → result ≡ Err stop → (result ≡ Err ReadFault) ⊎ (result ≡ Err InputLimit)
        → WhereTold start.input o.new.input (λ i r. WholeLinesAnswered A s w0.random w1 i r start.output o.new.output)
    whole_answered stop is unread =
        subst (λ (x : Option (List ℕ)). WhereTold start.input o.new.input (λ i r. WholeLinesAnswered A s w0.random w1 i r start.output x))
        (sym (next.unsent (not_replied result stop is) (not_cut result unread)))
        (subst (λ (x : World). WhereTold start.input o.new.input (λ i r. WholeLinesAnswered A s w0.random x i r start.output o.old.output)) (sym (next.unanswered (inr unread)))
        (has_served_whole A s K w0 w start.input o.old.input o.new.input start.output o.old.output old next.served
        (not_ended o.old.input o.new.input old.ended new.ended old.pending result stop is next.taken.still_ended next.taken.ended)
        (next.taken.part_lost unread)))

    pub unread_at_rest : IsUnanswered result → WhereTold start.input o.new.input (λ i r. AtRest A s w0.random i w0 w1)
    unread_at_rest none =
        subst (λ (x : World). WhereTold start.input o.new.input (λ i r. AtRest A s w0.random i w0 x)) (sym (next.unanswered none))
        (at_rest_now A s K w0 w start.input o.old.input o.new.input start.output o.old.output old _ next.served next.taken.counted)

    pub reply_cut_at_rest : result ≡ Err WriteFault → WhereTold start.input o.new.input (λ i r. AtRest A s w0.random i w0 w1)
    reply_cut_at_rest =
        cut_at_rest A s K K1 w0 w w1 start.input o.old.input o.new.input start.output o.old.output o.new.output old new _ result next.served next.taken.counted next.leaves

    pub spares_now : SparesAlways w0 w1
    spares_now = spares_always w0 w1 (spares_last w0 w w1 next.spares (next.leaves next.stands.0 next.stands.1).spare)

    pub run_ended : result ≡ Ok Ended → RunServed A s (Ok tt) w0 w1 start.input o.new.input start.output o.new.output
    run_ended ended = record {
      done = λ h. all_answered ended;
      stopped = λ h. absurd (no_stop h);
      cut = λ h. absurd (cc h);
      lost = λ stop kind h. absurd (cc h);
      undrawn = λ h. absurd (cc h);
      undamaged = λ device cell h. cc h;
      on_module = module_moments A s K K1 w0 w w1 start.input o.old.input o.new.input start.output o.old.output o.new.output old new _ result next.served next.taken.counted next.leaves;
      on_store = store_moments A s K K1 w0 w w1 start.input o.old.input o.new.input start.output o.old.output o.new.output old new _ result next.served next.taken.counted next.leaves;
      spare = spares_now;
      at_rest = λ answers. unread_at_rest (inl ended);
    }

    pub run_stopped : (stop : Stop) → result ≡ Err stop → RunServed A s (Err stop) w0 w1 start.input o.new.input start.output o.new.output
    run_stopped stop is = record {
      done = λ h. absurd (cc h);
      stopped = λ h. whole_answered stop is (stopped_as result stop is h);
      cut = λ h.
          has_served_cut A s K K1 w0 w w1 start.input o.old.input o.new.input start.output o.old.output o.new.output old new _ result next.served next.taken.counted next.leaves
          (same_stop result stop WriteFault is h);
      lost = λ other kind h. told_weaker start.input o.new.input _ _ (λ i r x. inl x) (line_lost other kind (same_stop result stop other is h));
      undrawn = λ h. line_lost EntropyFault tt (same_stop result stop EntropyFault is h);
      undamaged = λ device cell h. (next.leaves next.stands.0 next.stands.1).undamaged device cell (same_stop result stop (Damaged device cell) is h);
      on_module = module_moments A s K K1 w0 w w1 start.input o.old.input o.new.input start.output o.old.output o.new.output old new _ result next.served next.taken.counted next.leaves;
      on_store = store_moments A s K K1 w0 w w1 start.input o.old.input o.new.input start.output o.old.output o.new.output old new _ result next.served next.taken.counted next.leaves;
      spare = spares_now;
      at_rest = λ answers.
          by_answer result stop is (WhereTold start.input o.new.input (λ i r. AtRest A s w0.random i w0 w1)) answers (λ unread. unread_at_rest (inr unread)) reply_cut_at_rest;
    }
