-- A change of the roles is what the machine makes of it.
use Rattle.std.proofs.Common.{◌≡◌, ◌+◌, ℕ, Bool, true, false, List, [], ◌∷◌, Option, Result, Ok, Err, codes, refl, sym, ap, ◌∙◌, subst, inl, inr, ⊎_elim}
use Rattle.std.specs.Prelude.{◌⊎◌, ◌↔◌, ◌≤◌, IsTrue, OnOk, OnErr, IfErr}
use Rattle.device_cells.specs.Faults.{Rose}
use Rattle.device_cells.specs.Medium.{Medium, Told, IsSettled, EachImage, From}
use Rattle.device_cells.proofs.Media.{each_weaker, becomes_told, told_before}
use Rattle.cca_vectors.specs.Checks.{check}
use Rattle.cca_roles.specs.Changes.{HoldsEither, ChangesRoles, Remembers}
use Rattle.cca_roles.specs.RolesStand.{StandsForRoles}
use Rattle.cca_roles.specs.declared.faults.RoleFault.{RoleFault}
use Rattle.cca_roles.specs.declared.faults.RoleFault.TheVariants.{DiskFault}
use Rattle.cca_roles.specs.declared.roles.Role.{Role}
use Rattle.master_registers.specs.Masters.{Masters}
use Rattle.master_registers.specs.RegisterBody.{StandsForMasters}
use Rattle.line_service.specs.Replies.{Reply, Refused, Done, spelled}
use Rattle.line_service.specs.declared.stops.Stop.{Stop}
use Rattle.line_service.specs.declared.stops.Stop.TheVariants.{ModuleFault}
use Rattle.cca_machine.specs.State.{State, IsModuleOf}
use Rattle.cca_machine.specs.Verdict.{questions}
use Rattle.cca_machine.specs.Act.{Effect, NoCell, OneCell, Outcome}
use Rattle.request_rules.specs.Standing.{StandsInModule}
use Rattle.line_service.specs.Lines.{EndsInNewline}
use Rattle.cca_requests.specs.Serving.{IsEither, SameBut, CarriesModule, IsSound, LeavesModule}
use Rattle.cca_requests.specs.Changes.{plainly, role_outcome, role_stop, role_reply}
use Rattle.device_cells.proofs.SpareLemmas.{changed_turned}
use Rattle.cca_requests.proofs.Leaving.{still_module_left}
use Rattle.cca_requests.proofs.Contents.{at_content, becomes_holds, registers_alike, sound}
use Rattle.cca_requests.proofs.Serving.{still_module}

-- what comes of a change of one place that no rule refuses
abbrev pub changed_outcome : State → ℕ → List (Option Role) → Outcome
changed_outcome s place next = record { state = record s { roles = next }; reply = Done []; module_cells = OneCell (place + 1); store_cells = NoCell; between = λ cell. s }

-- what comes of it, by whether rule 30 is broken
abbrev outcome_by : Bool → State → Effect → Outcome
outcome_by refuses s e = role_outcome (questions (codes "name") (check 30 refuses ∷ []) ∷ []) s e

-- a fault that says that rule 30 is broken
pub record IsRefusing (fault : RoleFault) : Type 0 where
  pub stop : role_stop (Err fault) ≡ Ok tt
  pub reply : role_reply (Err fault) ≡ Refused 30 (codes "name")

not_disk : (fault : RoleFault) → IsRefusing fault → fault ≡ DiskFault → ⊥
not_disk fault refusing is = let bad = sym (ap (λ f. role_stop (Err f)) is) ∙ refusing.stop in cc bad

abbrev error : RoleFault → Result (Unit {0}) RoleFault
error fault = Err fault

same_fault : (a b : RoleFault) → error a ≡ error b → a ≡ b
same_fault a b is = cc is

module _ {A : Type 0} (medium : A → Medium) (old new : A) (s : State) (before now : List (Option Role)) (place : ℕ) (next : List (Option Role))
    (e : Effect) (e_is : plainly s e ≡ changed_outcome s place next) (full : RoleFault) (refusing : IsRefusing full)
    (settled : IsSettled (medium old)) (stands : StandsInModule s before (medium old)) where
  abbrev after : Outcome
  after = changed_outcome s place next

  either : (image : List ℕ) → From (HoldsEither (place + 1) s.roles next) (medium old) image → IsEither IsModuleOf s after image
  either image from = ⊎_elim
      (λ unchanged. inl (record { registers = kept; roles = unchanged }))
      (λ changed. inr (inl (record { registers = kept; roles = changed })))
      from.2.stands
    where
      kept : StandsForMasters image s.registers
      kept = registers_alike from.0 image s.registers place from.2.others (at_content (medium old) (IsModuleOf s) stands.in_module from.0 from.1).registers

  on_the_way : (r : Result (Unit {0}) RoleFault) → ChangesRoles place s.roles next (medium old) (medium new) r → EachImage (medium old) (medium new) (IsEither IsModuleOf s after)
  on_the_way r changes = each_weaker (medium old) (medium new) (From (HoldsEither (place + 1) s.roles next) (medium old)) (IsEither IsModuleOf s after) changes.moments either

  outside : (r : Result (Unit {0}) RoleFault) → ChangesRoles place s.roles next (medium old) (medium new) r
      → EachImage (medium old) (medium new) (From (SameBut (OneCell (place + 1))) (medium old))
  outside r changes =
      each_weaker (medium old) (medium new) (From (HoldsEither (place + 1) s.roles next) (medium old)) (From (SameBut (OneCell (place + 1))) (medium old))
      changes.moments (λ image from. (from.0, from.1, record { outside = from.2.outside; others = from.2.others; untouched = from.2.untouched }))

  done : (u : Unit {0}) (reply : List ℕ) → ChangesRoles place s.roles next (medium old) (medium new) (Ok u) → now ≡ next → reply ≡ spelled (Done [])
      → CarriesModule after s (Ok tt) reply now (medium old) (medium new)
  done u reply changes memory text = record {
    done = record {
      reply_is = text;
      stands = record {
        in_module = becomes_holds (medium old) (medium new) (HoldsEither (place + 1) s.roles next) (IsModuleOf s) (λ c. StandsForRoles c next) (IsModuleOf after.state)
            changes.either stands.in_module changes.stands
            (λ d c was by has. record { registers = registers_alike d c s.registers place by.others was.registers; roles = has });
        memory = memory;
      };
    };
    moments = on_the_way (Ok u) changes;
    outside = outside (Ok u) changes;
    stops = tt;
  }

  failed : (reply : List ℕ) → ChangesRoles place s.roles next (medium old) (medium new) (Err DiskFault)
      → CarriesModule after s (Err ModuleFault) reply now (medium old) (medium new)
  failed reply changes = record { done = tt; moments = on_the_way (Err DiskFault) changes; outside = outside (Err DiskFault) changes; stops = tt }

  refused : (reply : List ℕ) → new ≡ old → now ≡ before → reply ≡ spelled (Refused 30 (codes "name"))
      → CarriesModule (outcome_by true s e) s (Ok tt) reply now (medium old) (medium new)
  refused reply untouched memory text =
      subst (λ x. CarriesModule (outcome_by true s e) s (Ok tt) reply now (medium old) (medium x)) (sym untouched)
      (subst (λ rs. CarriesModule (outcome_by true s e) s (Ok tt) reply rs (medium old) (medium old)) (sym memory)
      (still_module (outcome_by true s e) s (Ok tt) reply before (medium old) refl text tt settled stands))

  abbrev Answers : Bool → Result (Unit {0}) RoleFault → List ℕ → Type 0
  Answers refuses r reply = CarriesModule (outcome_by refuses s e) s (role_stop r) reply now (medium old) (medium new)

  module _ (reply : List ℕ) where
    by_fault : (refuses : Bool) (fault : RoleFault) → ((error fault ≡ Err full) ↔ IsTrue refuses) → (fault ≡ DiskFault) ⊎ (fault ≡ full)
        → ChangesRoles place s.roles next (medium old) (medium new) (Err fault) → (error fault ≡ Err full → new ≡ old) → now ≡ before
        → OnOk (role_stop (Err fault)) (reply ≡ spelled (role_reply (Err fault))) → Answers refuses (Err fault) reply
    by_fault true fault rule (inl disk) changes untouched memory text =
        absurd (not_disk full refusing (sym (same_fault fault full (rule.1 refl)) ∙ disk))
    by_fault false fault rule (inl disk) changes untouched memory text =
        subst (λ f. Answers false (Err f) reply) (sym disk)
        (subst (λ (o : Outcome). CarriesModule o s (Err ModuleFault) reply now (medium old) (medium new)) (sym e_is)
        (failed reply (subst (λ f. ChangesRoles place s.roles next (medium old) (medium new) (Err f)) disk changes)))
    by_fault false fault rule (inr is) changes untouched memory text = let no : false ≡ true = rule.0 (ap error is) in cc no
    by_fault true fault rule (inr is) changes untouched memory text =
        subst (λ f. Answers true (Err f) reply) (sym is)
        (subst (λ x. CarriesModule (outcome_by true s e) s x reply now (medium old) (medium new)) (sym refusing.stop)
        (refused reply (untouched (ap error is)) memory (told ∙ ap spelled refusing.reply)))
      where
        told_of : (r : Result (Unit {0}) Stop) (x : Reply) → r ≡ Ok tt → OnOk r (reply ≡ spelled x) → reply ≡ spelled x
        told_of (Ok u) x ok says = says
        told_of (Err stop) x ok says = cc ok

        told : reply ≡ spelled (role_reply (Err full))
        told = told_of (role_stop (Err full)) (role_reply (Err full)) refusing.stop (subst (λ f. OnOk (role_stop (Err f)) (reply ≡ spelled (role_reply (Err f)))) is text)

    changes_by : (refuses : Bool) (r : Result (Unit {0}) RoleFault) → ((r ≡ Err full) ↔ IsTrue refuses)
        → IfErr r (λ fault. (fault ≡ DiskFault) ⊎ (fault ≡ full)) → ChangesRoles place s.roles next (medium old) (medium new) r
        → (r ≡ Err full → new ≡ old) → Remembers before next now r → OnOk (role_stop r) (reply ≡ spelled (role_reply r)) → Answers refuses r reply
    changes_by true (Ok u) rule faults changes untouched memory text = let no = rule.1 refl in cc no
    changes_by false (Ok u) rule faults changes untouched memory text =
        subst (λ (o : Outcome). CarriesModule o s (Ok tt) reply now (medium old) (medium new)) (sym e_is) (done u reply changes memory.done text)
    changes_by refuses (Err fault) rule faults changes untouched memory text = by_fault refuses fault rule faults changes untouched memory.kept text

    pub role_changes_as : (refuses : Bool) (r : Result (Unit {0}) RoleFault) (result : Result (Unit {0}) Stop) → result ≡ role_stop r → ((r ≡ Err full) ↔ IsTrue refuses)
        → IfErr r (λ fault. (fault ≡ DiskFault) ⊎ (fault ≡ full)) → ChangesRoles place s.roles next (medium old) (medium new) r
        → (r ≡ Err full → new ≡ old) → Remembers before next now r → OnOk result (reply ≡ spelled (role_reply r))
        → CarriesModule (outcome_by refuses s e) s result reply now (medium old) (medium new)
    role_changes_as refuses r result is rule faults changes untouched memory text =
        subst (λ x. CarriesModule (outcome_by refuses s e) s x reply now (medium old) (medium new)) (sym is)
        (changes_by refuses r rule faults changes untouched memory (subst (λ x. OnOk x (reply ≡ spelled (role_reply r))) is text))

  -- where no cell is written, no device is called
  pub role_still_as : (refuses : Bool) (r : Result (Unit {0}) RoleFault) → ((r ≡ Err full) ↔ IsTrue refuses) → (r ≡ Err full → new ≡ old)
      → (outcome_by refuses s e).module_cells ≡ NoCell → new ≡ old
  role_still_as true r rule untouched none = untouched (rule.1 refl)
  role_still_as false r rule untouched none =
      let no : OneCell (place + 1) ≡ NoCell = sym (ap (λ (o : Outcome). o.module_cells) e_is) ∙ none in cc no

-- ---- whatever the module holds

module _ {A : Type 0} (medium : A → Medium) (faults : A → ℕ) (old new : A) (m : Masters) (before now : List (Option Role)) (place : ℕ) (next : List (Option Role))
    (full : RoleFault) (refusing : IsRefusing full)
    (settled : IsSettled (medium old)) (stands : Told (medium old) (λ image. StandsForMasters image m))
    (also : Told (medium old) (λ image. StandsForRoles image before)) (later : faults old ≤ faults new) (reply : List ℕ) where
  abbrev Left : Result (Unit {0}) Stop → Type 0
  Left result = LeavesModule (medium old) (medium new) (faults old) (faults new) result reply before now

  left_by : (fault : RoleFault) → (fault ≡ DiskFault) ⊎ (fault ≡ full) → ChangesRoles place before next (medium old) (medium new) (Err fault)
      → (error fault ≡ Err full → new ≡ old) → now ≡ before → (error fault ≡ Err DiskFault → Rose (faults old) (faults new)) → OnOk (role_stop (Err fault)) (EndsInNewline reply) → OnErr (role_stop (Err fault)) (reply ≡ [])
      → Left (role_stop (Err fault))
  left_by fault (inl disk) changes untouched memory cause line silent = subst (λ f. Left (role_stop (Err f))) (sym disk) (record {
    disk = record { size = changes.either.size; still = changes.either.still; settled = λ ok. absurd (cc ok); later = later; fault = λ is. cause (ap error disk); quiet = λ none. absurd (none refl) };
    told = told_before (HoldsEither (place + 1) before next) (medium old) (medium new) changes.either;
    turned = tt;
    sound = tt;
    line = tt;
    silent = subst (λ f. OnErr (role_stop (Err f)) (reply ≡ [])) disk silent;
    memory = memory;
    stops = refl;
  })
  left_by fault (inr is) changes untouched memory cause line silent =
      subst (λ f. Left (role_stop (Err f))) (sym is)
      (subst (λ x. Left x) (sym refusing.stop)
      (subst (λ x. LeavesModule (medium old) (medium x) (faults old) (faults x) (Ok tt) reply before now) (sym (untouched (ap error is)))
      (subst (λ rs. LeavesModule (medium old) (medium old) (faults old) (faults old) (Ok tt) reply before rs) (sym memory)
      (still_module_left (medium old) (faults old) reply before told settled (sound (medium old) m before stands also)))))
    where
      told_of : (r : Result (Unit {0}) Stop) → r ≡ Ok tt → OnOk r (EndsInNewline reply) → EndsInNewline reply
      told_of (Ok u) ok says = says
      told_of (Err stop) ok says = cc ok

      told : EndsInNewline reply
      told = told_of (role_stop (Err full)) refusing.stop (subst (λ f. OnOk (role_stop (Err f)) (EndsInNewline reply)) is line)

  -- what a change leaves
  left_of : (r : Result (Unit {0}) RoleFault) → IfErr r (λ fault. (fault ≡ DiskFault) ⊎ (fault ≡ full))
      → ChangesRoles place before next (medium old) (medium new) r → (r ≡ Err full → new ≡ old) → Remembers before next now r
      → (r ≡ Err DiskFault → Rose (faults old) (faults new)) → ((r ≡ Err DiskFault → ⊥) → faults new ≡ faults old)
      → OnOk (role_stop r) (EndsInNewline reply) → OnErr (role_stop r) (reply ≡ []) → Left (role_stop r)
  left_of (Ok u) each changes untouched memory cause quiet line silent = record {
    disk = record { size = changes.either.size; still = changes.either.still; settled = λ ok. changes.settled; later = later; fault = λ is. cc is; quiet = λ none. quiet (λ is. cc is) };
    told = told_before (HoldsEither (place + 1) before next) (medium old) (medium new) changes.either;
    turned = changed_turned (place + 1) 33 (medium old) (medium new) (HoldsEither (place + 1) before next) changes.either changes.turned
        (λ b c by. by.outside) (λ b c by. by.untouched);
    sound = subst (λ rs. Told (medium new) (IsSound rs)) (sym memory.done) (sound (medium new) m next
        (becomes_told (medium old) (medium new) (HoldsEither (place + 1) before next) (λ image. StandsForMasters image m) (λ image. StandsForMasters image m)
        changes.either stands (λ d c p h. registers_alike d c m place h.others p))
        changes.stands);
    line = line;
    silent = tt;
    memory = tt;
    stops = tt;
  }
  left_of (Err fault) each changes untouched memory cause quiet line silent = left_by fault each changes untouched memory.kept cause line silent

  pub role_left_as : (r : Result (Unit {0}) RoleFault) (result : Result (Unit {0}) Stop) → result ≡ role_stop r → IfErr r (λ fault. (fault ≡ DiskFault) ⊎ (fault ≡ full))
      → ChangesRoles place before next (medium old) (medium new) r → (r ≡ Err full → new ≡ old) → Remembers before next now r
      → (r ≡ Err DiskFault → Rose (faults old) (faults new)) → ((r ≡ Err DiskFault → ⊥) → faults new ≡ faults old)
      → OnOk result (EndsInNewline reply) → OnErr result (reply ≡ []) → Left result
  role_left_as r result is each changes untouched memory cause quiet line silent =
      subst Left (sym is) (left_of r each changes untouched memory cause quiet (subst (λ x. OnOk x (EndsInNewline reply)) is line) (subst (λ x. OnErr x (reply ≡ [])) is silent))
