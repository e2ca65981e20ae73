-- What the memory has of two disks that stand for one state.
use Rattle.std.proofs.Common.{◌≡◌, ℕ, List, [], Option, Some, refl, sym, ap, subst, ◌∙◌}
use Rattle.device_cells.specs.Cells.{body}
use Rattle.device_cells.specs.Medium.{Medium, Told}
use Rattle.device_cells.proofs.Media.{told_from, told_at}
use Rattle.master_registers.specs.Masters.{Masters}
use Rattle.master_registers.specs.RegisterBody.{StandsForMasters}
use Rattle.master_registers.proofs.BodyLaws.{reads_one}
use Rattle.cca_roles.specs.RolesStand.{StandsForRoles}
use Rattle.cca_roles.specs.declared.roles.Role.{Role}
use Rattle.cca_roles.proofs.StandLaws.{stands_one}
use Rattle.verb_rules.specs.Keys.{keys_of}
use Rattle.record_bodies.specs.Entries.{Entry}
use Rattle.record_bodies.specs.StoreStands.{KeepsLabels, HoldsRows, labels_in}
use Rattle.record_bodies.specs.declared.rows.Row.{Row}
use Rattle.record_bodies.proofs.OpeningLaws.{stands_one as labels_one}
use Rattle.cca_machine.specs.State.{State, IsModuleOf, IsStoreOf}
use Rattle.request_rules.specs.Standing.{Tables, tables}
use Rattle.cca_machine.specs.Sound.{IsSound as IsRemembered}
use Rattle.line_service.specs.Answering.{OnDisks, IsSound}
use Rattle.cca_machine.specs.Coprocessor.{cca}
use Rattle.store_unload.specs.Opening.{AreKnown, remembers}

-- ---- one state

pub same_state : (s t : State) → s.registers ≡ t.registers → s.roles ≡ t.roles → s.labels ≡ t.labels → s ≡ t
same_state s t registers roles labels =
    ap (λ (m : Masters). let x : State = record { registers = m; roles = s.roles; labels = s.labels } in x) registers
    ∙ (ap (λ (r : List (Option Role)). let x : State = record { registers = t.registers; roles = r; labels = s.labels } in x) roles
    ∙ ap (λ (l : List (Option Entry)). let x : State = record { registers = t.registers; roles = t.roles; labels = l } in x) labels)

-- two disks stand for one state alone
pub one_state : (c d : List ℕ) (s t : State) → IsModuleOf s c → IsStoreOf s d → IsModuleOf t c → IsStoreOf t d → s ≡ t
one_state c d s t module_s store_s module_t store_t =
    let registers : s.registers ≡ t.registers = reads_one (body c 0) s.registers t.registers module_s.registers module_t.registers in
    same_state s t registers
    (stands_one c s.roles module_s.roles ∙ sym (stands_one c t.roles module_t.roles))
    (labels_one (keys_of s.registers) d s.labels store_s
    ∙ (ap (λ (m : Masters). labels_in (keys_of m) d) registers ∙ sym (labels_one (keys_of t.registers) d t.labels store_t)))

-- ---- what is known of disks that keep their contents

module _ (t : Tables) (m0 m1 d0 d1 : Medium) (same_m : m1.content ≡ m0.content) (same_d : d1.content ≡ d0.content) (known : AreKnown t m1 d1) where
  -- both disks tell their contents
  pub state_at : (c d : List ℕ) → m0.content ≡ Some c → d0.content ≡ Some d → (s : State) × IsModuleOf s c × IsStoreOf s d × remembers t s
  state_at c d is_c is_d =
      told_at d1.content (λ e. (s : State) × IsModuleOf s c × IsStoreOf s e × remembers t s) d (same_d ∙ is_d)
      (told_at m1.content (λ b. Told d1 (λ e. (s : State) × IsModuleOf s b × IsStoreOf s e × remembers t s)) c (same_m ∙ is_c) known.in_both)

  pub known_sound : IsSound cca m0 d0
  known_sound = record {
    in_module = told_from m0.content _ (λ c is.
        let here = told_at m1.content (IsRemembered t.roles) c (same_m ∙ is) known.in_module in
        let s : State = record { registers = here.registers; roles = t.roles; labels = [] } in
        (s, record { registers = here.in_registers; roles = here.in_roles }));
    in_both = told_from m0.content _ (λ c is. told_from d0.content _ (λ d is_d.
        let here = state_at c d is is_d in (here.0, here.1, here.2)));
  }

  -- the memory agrees with the state for which the disks stand
  pub known_remembers : (s : State) → OnDisks cca s m0 d0 → remembers t s
  known_remembers s disks =
      let c = disks.in_module.image in
      let d = disks.in_store.image in
      let here = state_at c d disks.in_module.told disks.in_store.told in
      subst (remembers t) (one_state c d here.0 s here.1 here.2 disks.in_module.has disks.in_store.has) here.3

-- what was opened
pub opened_known : (m d : Medium) (registers : Masters) (roles : List (Option Role)) (rows : List (Option Row))
    → Told m (λ image. StandsForMasters image registers) → Told m (λ image. StandsForRoles image roles)
    → Told d (λ image. KeepsLabels (keys_of registers) rows (labels_in (keys_of registers) image) image) → Told d (HoldsRows rows)
    → AreKnown (tables roles rows) m d
opened_known m d registers roles rows loaded opened kept holds = record {
  in_module = told_from m.content (IsRemembered roles) (λ c is. record {
    registers = registers;
    in_registers = told_at m.content (λ image. StandsForMasters image registers) c is loaded;
    in_roles = told_at m.content (λ image. StandsForRoles image roles) c is opened;
  });
  in_store = holds;
  in_both = told_from m.content _ (λ c is. told_from d.content _ (λ e is_e.
      let here = told_at d.content (λ image. KeepsLabels (keys_of registers) rows (labels_in (keys_of registers) image) image) e is_e kept in
      let s : State = record { registers = registers; roles = roles; labels = labels_in (keys_of registers) e } in (
        s,
        record {
          registers = told_at m.content (λ image. StandsForMasters image registers) c is loaded;
          roles = told_at m.content (λ image. StandsForRoles image roles) c is opened;
        },
        here.stands,
        (refl, here.agrees),
      )));
}

module _ (t : Tables) (m0 d0 : Medium) (known : AreKnown t m0 d0) where
  pub roles_told : Told m0 (λ image. StandsForRoles image t.roles)
  roles_told = told_from m0.content _ (λ c is. (told_at m0.content (IsRemembered t.roles) c is known.in_module).in_roles)
