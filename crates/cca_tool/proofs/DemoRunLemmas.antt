-- What the lines of a demo come to, from what a run of its text comes to.
use Rattle.std.specs.Prelude.{IsOk}
use Rattle.std.proofs.Common.{◌≡◌, refl, ◌⊎◌, ℕ, ◌+◌, ◌<◌, ◌≤◌, List, [], ◌++◌, length, Option, None, Some, Result, Ok, Err, sym, ap, ◌∙◌, subst, inl, inr, arith}
use Rattle.device_cells.specs.Faults.{Rose}
use Rattle.device_cells.specs.Medium.{Medium, Told, EachImage}
use Rattle.device_cells.specs.WhereTold.{WhereTold}
use Rattle.device_cells.proofs.Media.{each_still, each_weaker, told_from, told_at}
use Rattle.line_service.specs.Lines.{lines, EndsLine}
use Rattle.line_service.specs.Reading.{input_limit}
use Rattle.line_service.specs.Devices.{Span, DiskLeft, TellsFault, DamageTold, Devices, devices, Outside, outside}
use Rattle.line_service.specs.Machine.{World, world}
use Rattle.line_service.specs.Running.{ServesSound, Untouched}
use Rattle.line_service.specs.Sending.{GotPart, Grows}
use Rattle.line_service.specs.Serving.{Led, AllAnswered, LineLost, Unopened, IsOnTheWay, AtRest}
use Rattle.line_service.specs.declared.stops.Device.{Device}
use Rattle.line_service.specs.declared.stops.Device.TheVariants.{Module, Store}
use Rattle.line_service.specs.declared.stops.Stop.{Stop}
use Rattle.line_service.specs.declared.stops.Stop.TheVariants.{ReadFault, WriteFault, EntropyFault, ModuleFault, StoreFault, Damaged, InputLimit}
use Rattle.cca_machine.specs.State.{State}
use Rattle.cca_machine.specs.Coprocessor.{cca, IsBrokenModule, IsBrokenStore}
use Rattle.command_words.specs.Counting.{counted, counted_summary}
use Rattle.command_words.specs.Demo.{demo_lines, demo_text, summary, summary_text, are_ok, are_refused}
use Rattle.cca_tool.specs.DemoRun.{SummarySent, SummaryCut, DemoLost}
use Rattle.cca_tool.specs.Running.{DemoAnswers, DemoLeft, DemoLines, DemoRan, DemoUntouched, DisksUncalled, Uncalled}
use Rattle.store_unload.specs.Statuses.{CallsNone, status_of_lem}
use Rattle.store_unload.specs.declared.status.Status.{Status}
use Rattle.store_unload.specs.declared.status.Status.TheVariants as status
use Rattle.command_words.proofs.CountingLemmas.{ok-is, refused-is, old-is}
use Rattle.command_words.proofs.DemoLemmas.{lines-demo_text, demo-short}
use Rattle.cca_tool.proofs.RepliesEnd.{replies-end}
use Rattle.cca_tool.proofs.StatusLemmas.{no_memory_ended}

-- a count that is always 0 doesn't rise
pub never_rose : Rose 0 0 → ⊥
never_rose (inl more) = omega (arith, more)
never_rose (inr ends) = cc ends

pub never_usage : (r : Result (Unit {0}) Stop) → status_of_lem r ≡ status.Usage → ⊥
never_usage (Ok done) h = cc h
never_usage (Err ReadFault) h = cc h
never_usage (Err WriteFault) h = cc h
never_usage (Err EntropyFault) h = cc h
never_usage (Err ModuleFault) h = cc h
never_usage (Err StoreFault) h = cc h
never_usage (Err (Damaged device cell)) h = cc h
never_usage (Err InputLimit) h = cc h

no_stop : (done : Unit {0}) (stop : Stop) → ◌≡◌ {A = Result (Unit {0}) Stop} (Ok done) (Err stop) → ⊥
no_stop done stop h = cc h

module _ (n : ℕ) (text : List ℕ) (is : text ≡ demo_text n) where
  pub short : n ≤ 1000 → length text < input_limit
  short few = subst (λ (x : List ℕ). length x < input_limit) (sym is) (demo-short n few)

  pub within_limit : n ≤ 1000 → (rest : List ℕ) → length text ≡ length rest + input_limit → ⊥
  within_limit few rest full = omega (arith, short few, full)

  pub moments_of : (s : State) (Of : State → List ℕ → Type 0) (m0 m1 : Medium)
      → EachImage m0 m1 (λ c. m0.images c ⊎ IsOnTheWay cca s None text (λ t. Of t c))
      → EachImage m0 m1 (λ c. m0.images c ⊎ IsOnTheWay cca s None (demo_text n) (λ t. Of t c))
  moments_of s Of m0 m1 each =
      subst (λ (x : List ℕ). EachImage m0 m1 (λ c. m0.images c ⊎ IsOnTheWay cca s None x (λ t. Of t c))) is each

  pub at_rest_of : (s : State) (old new : World) → AtRest cca s None text old new → AtRest cca s None (demo_text n) old new
  at_rest_of s old new rests = subst (λ (x : List ℕ). AtRest cca s None x old new) is rests

  pub lost_of : (stop : Stop) (s : State) (m0 m1 d0 d1 : Medium) (rest : List ℕ) (before now : Option (List ℕ))
      → LineLost cca stop s None (world m1 d1 None) text before now ⊎ Unopened (world m0 d0 None) (world m1 d1 None) text rest before now
      → DemoLost stop n s (world m0 d0 None) (world m1 d1 None)
  lost_of stop s m0 m1 d0 d1 rest before now (inl lost) = inl (record {
    whole = lost.whole;
    line = lost.line;
    others = lost.others;
    lines_are = ap lines (sym is) ∙ lost.lines_are;
    state = lost.state;
    sent = lost.sent;
    leads = lost.leads;
    held = tt;
    may_stop = lost.may_stop;
    left = lost.left;
    undrawn = lost.undrawn;
  })
  lost_of stop s m0 m1 d0 d1 rest before now (inr none) = inr (none.on_module, none.on_store)

  module _ (s : State) (m d : Medium) (start tally : List ℕ) (none : start ≡ []) (all : AllAnswered cca s None (world m d None) text (Some start) (Some tally)) where
    led : Led cca s None (world m d None) (demo_lines n) all.sent
    led = subst (λ (ls : List (List ℕ)). Led cca s None (world m d None) ls all.sent) (ap lines is ∙ lines-demo_text n) all.led

    ends : EndsLine all.sent
    ends = replies-end (lines text) s all.led.last all.led.drawn all.sent all.led.runs

    told : counted_summary n tally ≡ summary n all.sent
    told =
        ap (counted_summary n) (all.held ∙ ap (λ (x : List ℕ). x ++ all.sent) none)
        ∙ (ap (λ (x : ℕ). summary_text n x (counted all.sent).refused (counted all.sent).old) (ok-is all.sent ends)
        ∙ (ap (λ (x : ℕ). summary_text n (are_ok all.sent) x (counted all.sent).old) (refused-is all.sent ends)
        ∙ ap (λ (x : ℕ). summary_text n (are_ok all.sent) (are_refused all.sent) x) (old-is all.sent ends)))

    pub summary_sent : (line : List ℕ) → line ≡ counted_summary n tally → (before now : Option (List ℕ))
        → WhereTold before now (λ x y. y ≡ x ++ line) → SummarySent n s (world m d None) before now
    summary_sent line line_is before now held = record {
      sent = all.sent;
      led = led;
      held = subst (λ (l : List ℕ). WhereTold before now (λ x y. y ≡ x ++ l)) (line_is ∙ told) held;
    }

    pub summary_cut : (line : List ℕ) → line ≡ counted_summary n tally → (before now : Option (List ℕ))
        → WhereTold before now (λ x y. GotPart x y line) → SummaryCut n s (world m d None) before now
    summary_cut line line_is before now got = record {
      sent = all.sent;
      led = led;
      got = subst (λ (l : List ℕ). WhereTold before now (λ x y. GotPart x y l)) (line_is ∙ told) got;
    }

-- ---- in records

pub sound_at : {d : Span Devices} (r q : Result (Unit {0}) Stop) → r ≡ q → ServesSound cca r d → ServesSound cca q d
sound_at {d} r q is sound = subst (λ (u : Result (Unit {0}) Stop). ServesSound cca u d) is sound

pub damage_at : {d : Span Devices} (r q : Result (Unit {0}) Stop) → r ≡ q → DamageTold cca r d → DamageTold cca q d
damage_at {d} r q is damage = subst (λ (u : Result (Unit {0}) Stop). DamageTold cca u d) is damage

pub ran_at : {K : Type 0} {k0 k1 : K} {o : Span Outside} {out : Status} (n m : ℕ) → n ≡ m → DemoRan n out k0 k1 o → DemoRan m out k0 k1 o
ran_at {K} {k0} {k1} {o} {out} n m is ran = subst (λ (x : ℕ). DemoRan x out k0 k1 o) is ran

pub ran_as : {K : Type 0} {k0 k1 : K} {o : Span Outside} {n : ℕ} (out told : Status) → told ≡ out → DemoRan n out k0 k1 o → DemoRan n told k0 k1 o
ran_as {K} {k0} {k1} {o} {n} out told is ran = subst (λ (x : Status). DemoRan n x k0 k1 o) (sym is) ran

abbrev ok_of : Unit {0} → Result (Unit {0}) Stop
ok_of done = Ok done

-- all lines were served, and what came of the summary
module _ (done : Unit {0}) (q : Result (Unit {0}) Stop) (undamaged : (device : Device) (cell : ℕ) → q ≡ Err (Damaged device cell) → ⊥)
    (unfailed : (q ≡ Err ModuleFault → ⊥) × (q ≡ Err StoreFault → ⊥)) where
  summary_sound : {d : Span Devices} → ServesSound cca (Ok done) d → ServesSound cca q d
  summary_sound sound = record { sound = λ h. sound.sound (inl refl); settled = λ h. sound.settled (inl refl) }

  summary_damage : {d : Span Devices} → DamageTold cca (Ok done) d → DamageTold cca q d
  summary_damage {d} damage = record {
    module_damaged = λ cell h. absurd (undamaged Module cell h);
    store_damaged = λ cell h. absurd (undamaged Store cell h);
    module_judged = λ still. told_from d.old.world.module_.content _ (λ c told cell broken.
        absurd (no_stop done (Damaged Module cell)
        (told_at d.old.world.module_.content (λ image. (n : ℕ) → IsBrokenModule n image → ◌≡◌ {A = Result (Unit {0}) Stop} (Ok done) (Err (Damaged Module n))) c told (damage.module_judged still) cell broken)));
    store_judged = λ still_m still_d. told_from d.old.world.module_.content _ (λ c is_c. told_from d.old.world.store.content _ (λ e is_e cell broken.
        let both = told_at d.old.world.module_.content (λ x. Told d.old.world.store (λ y. (n : ℕ) → IsBrokenStore n x y → ◌≡◌ {A = Result (Unit {0}) Stop} (Ok done) (Err (Damaged Store n)))) c is_c (damage.store_judged still_m still_d) in
        absurd (no_stop done (Damaged Store cell)
        (told_at d.old.world.store.content (λ y. (n : ℕ) → IsBrokenStore n c y → ◌≡◌ {A = Result (Unit {0}) Stop} (Ok done) (Err (Damaged Store n))) e is_e both cell broken))));
    cells = λ device cell h. absurd (undamaged device cell h);
  }

  disk_after : (m0 m1 : Medium) (before now : ℕ) (stop : Stop) → (q ≡ Err stop → ⊥) → DiskLeft m0 m1 before now (IsOk (ok_of done)) (ok_of done ≡ Err stop)
      → DiskLeft m0 m1 before now (IsOk q) (q ≡ Err stop)
  disk_after m0 m1 before now stop never left = record {
    size = left.size;
    still = left.still;
    settled = λ ok. left.settled refl;
    later = left.later;
    fault = λ h. absurd (never h);
    quiet = λ unfailed. left.quiet (λ h. cc h);
  }

  pub summary_left : (m0 m1 d0 d1 : Medium) (m_before m_now d_before d_now sink_before sink_now : ℕ) (p q' : Option (List ℕ))
      → ServesSound cca (Ok done) (record { old = devices m0 m_before d0 d_before None 0; new = devices m1 m_now d1 d_now None 0 })
      → DamageTold cca (ok_of done) (record { old = devices m0 m_before d0 d_before None 0; new = devices m1 m_now d1 d_now None 0 })
      → DiskLeft m0 m1 m_before m_now (IsOk (ok_of done)) (ok_of done ≡ Err ModuleFault)
      → DiskLeft d0 d1 d_before d_now (IsOk (ok_of done)) (ok_of done ≡ Err StoreFault)
      → TellsFault sink_before sink_now (q ≡ Err WriteFault) → WhereTold p q' Grows
      → DemoLeft q (record {
        old = outside None 0 p sink_before (devices m0 m_before d0 d_before None 0);
        new = outside None 0 q' sink_now (devices m1 m_now d1 d_now None 0);
      })
  summary_left m0 m1 d0 d1 m_before m_now d_before d_now sink_before sink_now p q' sound damage on_module on_store told grows = record {
    sound = summary_sound sound;
    damage = summary_damage damage;
    sink_left = told;
    sink_grows = grows;
    module_left = disk_after m0 m1 m_before m_now ModuleFault unfailed.0 on_module;
    store_left = disk_after d0 d1 d_before d_now StoreFault unfailed.1 on_store;
  }

-- ---- no line was served

module _ {K : Type 0} (n : ℕ) (sink : K) (held : Option (List ℕ)) (count : ℕ) (m : Medium) (m_count : ℕ) (d : Medium) (d_count : ℕ) where
  abbrev as_before : Span Outside
  as_before = record {
    old = outside None 0 held count (devices m m_count d d_count None 0);
    new = outside None 0 held count (devices m m_count d d_count None 0);
  }

  none_done : (status.NoMemory ≡ status.Done) ⊎ (status.NoMemory ≡ status.WriteFault) → ⊥
  none_done (inl h) = cc h
  none_done (inr h) = cc h

  none_lines : (s : State) → DemoLines n s status.NoMemory as_before
  none_lines s = record {
    demo_done = λ h. absurd (cc h);
    demo_cut = λ h. absurd (cc h);
    demo_lost = λ h. absurd (cc h);
    demo_store_lost = λ h. absurd (cc h);
    demo_moments = each_weaker m m m.images _ (each_still m) (λ c image. inl image);
    demo_store_moments = each_weaker d d d.images _ (each_still d) (λ c image. inl image);
    demo_spare = record {
      on_module = each_weaker m m m.images _ (each_still m) (λ c image. inl image);
      on_store = each_weaker d d d.images _ (each_still d) (λ c image. inl image);
    };
    demo_at_rest = λ h. absurd (none_done h);
    demo_complete = λ quiet still_m still_d. inr refl;
  }

  pub none_ran : DemoRan n status.NoMemory sink sink as_before
  none_ran = record {
    answers = record {
      demo_sink = λ undone uncut. refl;
      demo_words = λ h. cc h;
      demo_read = λ h. cc h;
      demo_limit = λ h. cc h;
      demo_drawn = λ h. cc h;
    };
    lines = λ s disks. none_lines s;
    ends = no_memory_ended _;
  }

-- ---- what a demo doesn't call

pub demo_uncalled : {S K M D E : Type 0} (out : Status) (source : S) (sink0 sink1 : K) (module0 module1 : M) (store0 store1 : D) (entropy : E)
    → DemoAnswers out sink0 sink1 → (out ≡ status.NoMemory → DisksUncalled module0 module1 store0 store1) → CallsNone out
    → Uncalled source source sink0 sink1 module0 module1 store0 store1 entropy entropy
demo_uncalled out source sink0 sink1 module0 module1 store0 store1 entropy answers uncalled (inl usage) = absurd (answers.demo_words usage)
demo_uncalled out source sink0 sink1 module0 module1 store0 store1 entropy answers uncalled (inr memory) =
    let disks = uncalled memory in
    record {
      no_source = refl;
      no_sink = answers.demo_sink (λ h. cc (memory, h)) (λ h. cc (memory, h));
      no_module = disks.no_module;
      no_store = disks.no_store;
      no_entropy = refl;
    }

pub demo_untouched : {S K E : Type 0} (source : S) (sink0 sink1 : K) (entropy : E) (d : Span Devices) → DemoUntouched sink0 sink1 d
    → Untouched source source sink0 sink1 entropy entropy d
demo_untouched source sink0 sink1 entropy d all = record {
  unsound_source = refl;
  unsound_sink = all.unsound_sink;
  unsound_entropy = refl;
  unsound_module = all.unsound_module;
  unsound_store = all.unsound_store;
}
