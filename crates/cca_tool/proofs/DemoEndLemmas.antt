-- How a demo ends, from what serving its lines leaves.
use Rattle.std.proofs.Common.{◌≡◌, ◌∙◌, ℕ, ◌≤◌, List, [], ◌++◌, Option, None, Some, Result, Ok, Err, refl, sym, ap, subst, inl, ⊎_elim, arith}
use Rattle.std.specs.Prelude.{IsOk}
use Rattle.device_cells.specs.Faults.{Rose}
use Rattle.device_cells.specs.Medium.{Medium}
use Rattle.device_cells.specs.WhereTold.{WhereTold}
use Rattle.device_cells.proofs.WhereToldLemmas.{told_weaker}
use Rattle.line_service.specs.Devices.{DiskLeft, devices, outside}
use Rattle.line_service.specs.Machine.{world}
use Rattle.line_service.specs.Running.{SessionLeft}
use Rattle.line_service.specs.Sending.{GotPart, Grows}
use Rattle.line_service.proofs.StopLemmas.{grows_none}
use Rattle.line_service.specs.declared.stops.Stop.{Stop}
use Rattle.line_service.specs.declared.stops.Stop.TheVariants.{WriteFault, ModuleFault, StoreFault}
use Rattle.cca_machine.specs.State.{IsModuleOf, IsStoreOf}
use Rattle.cca_machine.specs.Coprocessor.{cca}
use Rattle.command_words.specs.Counting.{counted_summary}
use Rattle.command_words.specs.Demo.{demo_text}
use Rattle.cca_tool.specs.Running.{DemoRan}
use Rattle.store_unload.specs.Statuses.{status_of_lem}
use Rattle.store_unload.specs.declared.status.Status.TheVariants as status
use Rattle.cca_tool.proofs.StatusLemmas.{as_told, ended_as}
use Rattle.cca_tool.proofs.DemoRunLemmas.{never_rose, never_usage, short, within_limit, moments_of, at_rest_of, lost_of, summary_sent, summary_cut, summary_left, sound_at, damage_at}

module _ (n : ℕ) (text : List ℕ) (is_text : text ≡ demo_text n) (few : n ≤ 1000)
    (m0 m1 d0 d1 : Medium) (m_before m_now d_before d_now : ℕ) (rest start tally : List ℕ) (r : Result (Unit {0}) Stop)
    (ran : SessionLeft cca r (record {
      old = outside (Some text) 0 (Some start) 0 (devices m0 m_before d0 d_before None 0);
      new = outside (Some rest) 0 (Some tally) 0 (devices m1 m_now d1 d_now None 0);
    })) {K : Type 0} where
  -- the lines were not all answered
  pub stopped_ran : (stop : Stop) → r ≡ Err stop → (k : K) (sink : Option (List ℕ)) (count : ℕ)
      → DemoRan n (status_of_lem (Err stop)) k k (record {
        old = outside None 0 sink count (devices m0 m_before d0 d_before None 0);
        new = outside None 0 sink count (devices m1 m_now d1 d_now None 0);
      })
  stopped_ran stop is_stop k sink count =
      let out = status_of_lem (Err stop) in
      let is = ap status_of_lem (sym is_stop) in
      record {
        answers = record {
          demo_sink = λ undone uncut. refl;
          demo_words = λ h. never_usage r (sym is ∙ h);
          demo_read = λ h. never_rose (ran.left.source_left.fault (as_told r out is status.ReadFault h));
          demo_limit = λ h. within_limit n text is_text few rest (ran.taken.limit.0 (as_told r out is status.InputLimit h)).0;
          demo_drawn = λ h. never_rose (ran.left.devices_left.entropy_left.fault (as_told r out is status.EntropyFault h));
        };
        lines = λ s disks.
            let lines = ran.lines s disks in
            let run = lines.serves in
            record {
              demo_done = λ h. let all = as_told r out is status.Done h in absurd (cc (all, is_stop));
              demo_cut = λ h. absurd (never_rose (ran.left.sink_left.fault (as_told r out is status.WriteFault h)));
              demo_lost = λ h.
                  lost_of n text is_text ModuleFault s m0 m1 d0 d1 rest _ _ (run.lost ModuleFault tt (as_told r out is status.ModuleFault h));
              demo_store_lost = λ h.
                  lost_of n text is_text StoreFault s m0 m1 d0 d1 rest _ _ (run.lost StoreFault tt (as_told r out is status.StoreFault h));
              demo_moments = moments_of n text is_text s IsModuleOf m0 m1 run.on_module;
              demo_store_moments = moments_of n text is_text s IsStoreOf d0 d1 run.on_store;
              demo_spare = run.spare;
              demo_at_rest = λ h. absurd (⊎_elim (λ (done : out ≡ status.Done).
                  let ended = as_told r out is status.Done done in cc (ended, is_stop))
                  (λ (cut : out ≡ status.WriteFault). never_rose (ran.left.sink_left.fault (as_told r out is status.WriteFault cut))) h);
              demo_complete = λ sink_still still still_d.
                  let all = lines.complete (record { reads = never_rose; writes = never_rose; on_module = still; on_store = still_d; draws = never_rose })
                  (short n text is_text few) in
                  absurd (cc (all, is_stop));
            };
        ends =
            ended_as _ r out is
            (record {
              sound = ran.sound;
              damage = ran.damage;
              sink_left = record { later = omega arith; fault = λ h. absurd (never_rose (ran.left.sink_left.fault h)); quiet = λ never. refl };
              sink_grows = grows_none sink;
              module_left = ran.left.devices_left.module_left;
              store_left = ran.left.devices_left.store_left;
            });
      }

  module _ (done : Unit {0}) (is_done : r ≡ Ok done) (none : start ≡ []) (k0 k1 : K) (line : List ℕ) (line_is : line ≡ counted_summary n tally)
      (before now : Option (List ℕ)) (count0 count1 : ℕ) (later : count0 ≤ count1) where
    module_after : DiskLeft m0 m1 m_before m_now (IsOk {E = Stop} (Ok done)) (Ok done ≡ Err ModuleFault)
    module_after = subst (λ (q : Result (Unit {0}) Stop). DiskLeft m0 m1 m_before m_now (IsOk q) (q ≡ Err ModuleFault)) is_done ran.left.devices_left.module_left

    store_after : DiskLeft d0 d1 d_before d_now (IsOk {E = Stop} (Ok done)) (Ok done ≡ Err StoreFault)
    store_after = subst (λ (q : Result (Unit {0}) Stop). DiskLeft d0 d1 d_before d_now (IsOk q) (q ≡ Err StoreFault)) is_done ran.left.devices_left.store_left

    -- the summary was sent
    pub sent_ran : count1 ≡ count0 → WhereTold before now (λ x y. y ≡ x ++ line) → DemoRan n status.Done k0 k1 (record {
      old = outside None 0 before count0 (devices m0 m_before d0 d_before None 0);
      new = outside None 0 now count1 (devices m1 m_now d1 d_now None 0);
    })
    sent_ran still sent = record {
      answers = record {
        demo_sink = λ undone uncut. absurd (undone refl);
        demo_words = λ h. cc h;
        demo_read = λ h. cc h;
        demo_limit = λ h. cc h;
        demo_drawn = λ h. cc h;
      };
      lines = λ s disks.
          let run = (ran.lines s disks).serves in
          record {
            demo_done = λ h. summary_sent n text is_text s m1 d1 start tally none (run.done is_done) line line_is before now sent;
            demo_cut = λ h. absurd (cc h);
            demo_lost = λ h. absurd (cc h);
            demo_store_lost = λ h. absurd (cc h);
            demo_moments = moments_of n text is_text s IsModuleOf m0 m1 run.on_module;
            demo_store_moments = moments_of n text is_text s IsStoreOf d0 d1 run.on_store;
            demo_spare = run.spare;
            demo_at_rest = λ h. at_rest_of n text is_text s (world m0 d0 None) (world m1 d1 None) (run.at_rest (inl (subst IsOk (sym is_done) refl)));
            demo_complete = λ sink_still still_m still_d. inl refl;
          };
      ends =
          ended_as _ (Ok done) status.Done refl
          (summary_left done (Ok done) (λ device cell h. cc h) ((λ h. cc h), (λ h. cc h)) m0 m1 d0 d1 m_before m_now d_before d_now count0 count1 before now
          (sound_at r (Ok done) is_done ran.sound) (damage_at r (Ok done) is_done ran.damage) module_after store_after
          (record { later = later; fault = λ h. cc h; quiet = λ never. still })
          (told_weaker before now _ Grows (λ x y h. (_, h)) sent));
    }

    -- the summary was cut
    pub cut_ran : Rose count0 count1 → WhereTold before now (λ x y. GotPart x y line) → DemoRan n status.WriteFault k0 k1 (record {
      old = outside None 0 before count0 (devices m0 m_before d0 d_before None 0);
      new = outside None 0 now count1 (devices m1 m_now d1 d_now None 0);
    })
    cut_ran failed part = record {
      answers = record {
        demo_sink = λ undone uncut. absurd (uncut refl);
        demo_words = λ h. cc h;
        demo_read = λ h. cc h;
        demo_limit = λ h. cc h;
        demo_drawn = λ h. cc h;
      };
      lines = λ s disks.
          let run = (ran.lines s disks).serves in
          record {
            demo_done = λ h. absurd (cc h);
            demo_cut = λ h. summary_cut n text is_text s m1 d1 start tally none (run.done is_done) line line_is before now part;
            demo_lost = λ h. absurd (cc h);
            demo_store_lost = λ h. absurd (cc h);
            demo_moments = moments_of n text is_text s IsModuleOf m0 m1 run.on_module;
            demo_store_moments = moments_of n text is_text s IsStoreOf d0 d1 run.on_store;
            demo_spare = run.spare;
            demo_at_rest = λ h. at_rest_of n text is_text s (world m0 d0 None) (world m1 d1 None) (run.at_rest (inl (subst IsOk (sym is_done) refl)));
            demo_complete = λ sink_still still_m still_d. absurd (sink_still failed);
          };
      ends =
          ended_as _ (Err WriteFault) status.WriteFault refl
          (summary_left done (Err WriteFault) (λ device cell h. cc h) ((λ h. cc h), (λ h. cc h)) m0 m1 d0 d1 m_before m_now d_before d_now count0 count1 before now
          (sound_at r (Ok done) is_done ran.sound) (damage_at r (Ok done) is_done ran.damage) module_after store_after
          (record { later = later; fault = λ h. failed; quiet = λ never. absurd (never refl) })
          (told_weaker before now _ Grows (λ x y got. (got.sent, got.held)) part));
    }
