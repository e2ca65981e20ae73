-- What a move leaves whose disks were opened, and one whose disks weren't.
use Rattle.std.proofs.Common.{◌≡◌, ◌∙◌, ℕ, List, Option, Result, Ok, Err, refl, ap, arith}
use Rattle.std.specs.Prelude.{◌⊎◌}
use Rattle.cca_machine.specs.Coprocessor.{cca}
use Rattle.cca_machine.specs.State.{State}
use Rattle.cca_roles.specs.RolesStand.{StandsForRoles}
use Rattle.device_cells.specs.Medium.{Keeps, Medium, Told}
use Rattle.device_cells.proofs.Media.{told_earlier}
use Rattle.device_cells.proofs.WhereToldLemmas.{rose_wider}
use Rattle.key_cells.specs.Bench.{Bench}
use Rattle.line_service.specs.Answering.{IsSound, OnDisks}
use Rattle.line_service.specs.Devices.{DamageTold, OpeningLeft, TellsFault}
use Rattle.line_service.specs.Stops.{IsOpeningStop}
use Rattle.line_service.specs.declared.stops.Device.TheVariants.{Module, Store}
use Rattle.line_service.specs.declared.stops.Stop.{Stop}
use Rattle.line_service.proofs.OpeningLemmas.{module_unbroken, store_unbroken, unbroken}
use Rattle.line_service.proofs.StopLemmas.{count_still, grows_none}
use Rattle.master_registers.specs.Loaded.{IsLoaded, Loaded, StandsForLoaded, masters_in}
use Rattle.master_registers.specs.Masters.{Masters}
use Rattle.master_registers.specs.RegisterBody.{StandsForMasters}
use Rattle.master_registers.specs.declared.registers.Registers.{Registers}
use Rattle.store_unload.specs.Judging.{RefusedAsRead}
use Rattle.command_words.specs.declared.moves.Move.{Move}
use Rattle.record_bodies.specs.StoreStands.{HoldsRows}
use Rattle.request_rules.specs.Standing.{Tables}
use Rattle.store_unload.specs.Opening.{AreKnown, IsOpened}
use Rattle.store_unload.specs.Statuses.{status_of_lem}
use Rattle.store_unload.specs.Unloading.{IsLabelStatus, KnownAsRead, MoveLeft, MoveRests, MoveTold, MoveUntold, OutputsLeft, Still, TellsNone, disk_stop, outputs}
use Rattle.store_unload.specs.declared.status.Status.{Status}
use Rattle.store_unload.specs.declared.status.Status.TheVariants as status
use Rattle.store_unload.specs.declared.unloading.MoveStatus.{MoveStatus}
use Rattle.store_unload.specs.declared.unloading.MoveStatus.TheVariants.{Refused, Run}
use Rattle.store_unload.proofs.BothLemmas.{both}
use Rattle.store_unload.proofs.KnownLemmas.{known_sound, roles_told}
use Rattle.store_unload.proofs.MoveLemmas.{cell_is_one, never_broken, no_ok, not_module, stop_again, stop_told, store_cell, told_wider, unwritten}
use Rattle.store_unload.proofs.OpeningLemmas.{damage_as, left_as}
use Rattle.store_unload.proofs.RestLemmas.{none_told, unread}
use Rattle.store_unload.proofs.ToldLemmas.{disks_after, never_tells}

-- what was read of the disks that were opened
known_as_read : (t : Tables) (registers : Masters) (m0 m1 d0 d1 : Medium) → m1.content ≡ m0.content → d1.content ≡ d0.content
    → Told m0 (λ image. StandsForMasters image registers) → AreKnown t m1 d1 → KnownAsRead m0 d0 registers t.roles t.rows
known_as_read t registers m0 m1 d0 d1 same_m same_d loaded known = record {
  in_module = loaded;
  roles_in_module = told_earlier m0 m1 (λ image. StandsForRoles image t.roles) same_m (roles_told t m1 d1 known);
  in_store = told_earlier d0 d1 (HoldsRows t.rows) same_d known.in_store;
}

-- a store that turns out damaged, though the disks that were opened stand for a state wherever they tell their bytes
judged_damage : (r : MoveStatus) (m0 m1 d0 d2 : Medium) (mf0 mf1 df0 df2 : ℕ) → IsSound cca m0 d0 → IsLabelStatus r
    → ((s : State) → OnDisks cca s m0 d0 → (cell : ℕ) → r ≡ Run (status.Damaged Store cell) → ⊥)
    → DamageTold cca (disk_stop r) (both m0 mf0 m1 mf1 d0 df0 d2 df2)
judged_damage r m0 m1 d0 d2 mf0 mf1 df0 df2 sound kind undamaged = record {
  module_damaged = λ cell h. absurd (not_module r cell (store_cell r kind Module cell h));
  store_damaged = λ cell h. never_broken m0 d0 _ sound (λ s disks. undamaged s disks cell (store_cell r kind Store cell h).is);
  module_judged = λ still. module_unbroken cca m0 d0 _ sound;
  store_judged = λ still_m still_d. store_unbroken cca m0 d0 _ sound;
  cells = λ device cell h. cell_is_one r device cell (store_cell r kind device cell h);
}

module _ {K P : Type 0} (w : Move) (f0 f1 : K) (p0 p1 : P) (m0 : Medium) (mf0 : ℕ) (m1 : Medium) (mf1 : ℕ) (d0 : Medium) (df0 : ℕ) (d1 : Medium) (df1 : ℕ)
    (file0 file1 : Option (List ℕ)) (ff0 ff1 : ℕ) (report0 report1 : Option (List ℕ)) (pf0 pf1 : ℕ) where
  -- the disks were opened
  pub left_opened : (q : Result Registers Stop) (held : Registers) → q ≡ Ok held → (b : Bench) (t : Tables) (r : MoveStatus) (d2 : Medium) (df2 : ℕ)
      → AreKnown t m1 d1 → ((s : State) → OnDisks cca s m0 d0 → IsOpened s held b t d1) → IsLoaded held b → Told m0 (StandsForLoaded held b)
      → OpeningLeft q (both m0 mf0 m1 mf1 d0 df0 d1 df1) → IsLabelStatus r
      → ((s : State) → IsOpened s held b t d1
      → MoveTold s w r file0 file1 report0 report1 (Still df1 df2) (Still ff0 ff1 × Still pf0 pf1))
      → ((m : Masters) → Loaded m held b → (r ≡ Run status.Done) ⊎ (MoveUntold f0 f1 p0 p1 → ⊥)
      → MoveRests m t.roles w t.rows r file0 file1 report0 report1)
      → ((m : Masters) → Loaded m held b → (rule : ℕ) → r ≡ Refused rule → (body : List ℕ) × RefusedAsRead m t.roles w t.rows body rule)
      → (TellsNone r → MoveUntold f0 f1 p0 p1) → Keeps d1 d2 → TellsFault df1 df2 (r ≡ Run status.StoreFault)
      → OutputsLeft r (record { old = outputs file0 ff0 report0 pf0; new = outputs file1 ff1 report1 pf1 })
      → MoveLeft w r f0 f1 p0 p1 (both m0 mf0 m1 mf1 d0 df0 d2 df2) (record { old = outputs file0 ff0 report0 pf0; new = outputs file1 ff1 report1 pf1 })
  left_opened q held is b t r d2 df2 known opened loaded registers left kind told own refusal untold keeps store_left outputs_left =
      let masters : Masters = masters_in held b in
      let sound : IsSound cca m0 d0 = known_sound t m0 m1 d0 d1 left.module_kept.content left.store_kept.content known in
      let as_read : KnownAsRead m0 d0 masters t.roles t.rows =
      known_as_read t masters m0 m1 d0 d1 left.module_kept.content left.store_kept.content registers known in
      record {
        told = λ s disks.
            told_wider s w r file0 file1 report0 report1 _ _ _
            (λ still rose. still.1 (rose_wider _ _ _ _ left.store_left.later store_left.later (omega arith) rose)) (told s (opened s disks));
        own = λ read. record { registers = masters; roles = t.roles; rows = t.rows; known = as_read; moved = own masters loaded read };
        refusal = λ rule named.
            let refused = refusal masters loaded rule named in
            record { registers = masters; roles = t.roles; rows = t.rows; known = as_read; body = refused.0; refused = refused.1 };
        sound = λ tells. sound;
        unsound = λ never. absurd (never sound);
        untold = untold;
        damage = judged_damage r m0 m1 d0 d2 mf0 mf1 df0 df2 sound kind (λ s disks cell named. (told s (opened s disks)).undamaged Store cell named);
        disks_left = disks_after q held is r kind m0 m1 d0 d1 d2 mf0 mf1 df0 df1 df2 left keeps store_left;
        outputs_left = outputs_left;
      }

  -- they weren't
  pub left_unopened : (q : Result Registers Stop) (stop : Stop) (told : Status) → q ≡ Err stop → IsOpeningStop stop → told ≡ status_of_lem (Err stop)
      → DamageTold cca q (both m0 mf0 m1 mf1 d0 df0 d1 df1) → OpeningLeft q (both m0 mf0 m1 mf1 d0 df0 d1 df1)
      → MoveLeft w (Run told) f0 f0 p0 p0 (both m0 mf0 m1 mf1 d0 df0 d1 df1) (record { old = outputs file0 ff0 report0 pf0; new = outputs file0 ff0 report0 pf0 })
  left_unopened q stop told is kind are damage left =
      let again : disk_stop (Run told) ≡ Err stop = stop_again stop told kind are in
      record {
        told = λ s disks.
            stop_told s w file0 report0 _ _ stop told are kind
            (λ named still. still.0 (left.module_left.fault (is ∙ ap Err named))) (λ named still. still.1 (left.store_left.fault (is ∙ ap Err named)))
            (unbroken cca m0 d0 s stop disks (λ cell named. damage.module_damaged cell (is ∙ ap Err named)) (λ cell named. damage.store_damaged cell (is ∙ ap Err named)));
        own = λ read. absurd (none_told (Run told) (unread stop told are) f0 p0 read);
        refusal = λ rule named. absurd (cc named);
        sound = λ tells. absurd (never_tells stop told kind are tells);
        unsound = λ never. record { no_file = refl; no_report = refl };
        untold = λ none. record { no_file = refl; no_report = refl };
        damage = damage_as q (disk_stop (Run told)) (both m0 mf0 m1 mf1 d0 df0 d1 df1) (λ other h. cc (h, is, again)) (λ other h. cc (h, is, again)) damage;
        disks_left = left_as q (disk_stop (Run told)) (both m0 mf0 m1 mf1 d0 df0 d1 df1) (λ other h. cc (h, is, again)) (λ other h. cc (h, is, again))
            (no_ok (disk_stop (Run told)) q stop again) left;
        outputs_left = record {
          file_left = count_still ff0 _ (unwritten stop told kind are);
          report_left = count_still pf0 _ (λ h. cc h);
          file_grows = grows_none file0;
          report_grows = grows_none report0;
        };
      }
