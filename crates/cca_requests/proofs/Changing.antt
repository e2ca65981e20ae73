-- An action on the registers is what the machine makes of it.
use Rattle.std.proofs.Common.{◌≡◌, ℕ, Bool, true, false, List, [], ◌∷◌, Option, Result, Ok, Err, codes, refl, sym, ap, ◌∙◌, subst, inl, inr, ⊎_elim}
use Rattle.std.specs.Prelude.{◌↔◌, ◌≤◌, IsTrue, IfOk, OnOk, OnErr}
use Rattle.device_cells.specs.Medium.{Medium, Told, IsSettled, EachImage, From}
use Rattle.device_cells.specs.Faults.{Rose}
use Rattle.device_cells.proofs.Media.{each_weaker, becomes_told, told_before}
use Rattle.cca_roles.specs.RolesStand.{StandsForRoles}
use Rattle.cca_roles.specs.declared.roles.Role.{Role}
use Rattle.cca_vectors.specs.Checks.{check}
use Rattle.key_cells.specs.Bench.{Bench}
use Rattle.record_bodies.specs.Entries.{Entry}
use Rattle.master_registers.specs.Masters.{NewRegister, Empty, Partial, Full, Masters, state_of}
use Rattle.master_registers.specs.RegisterBody.{StandsForMasters, registers_body}
use Rattle.master_registers.specs.Loaded.{Loaded}
use Rattle.master_registers.specs.Changes.{ChangesModule, HoldsEither, WhenRefused}
use Rattle.master_registers.specs.declared.faults.RegisterFault.{RegisterFault}
use Rattle.master_registers.specs.declared.faults.RegisterFault.TheVariants.{DiskFault, RegisterState, SamePattern}
use Rattle.master_registers.specs.declared.registers.Registers.{Registers}
use Rattle.line_service.specs.Replies.{Done, Text, spelled}
use Rattle.cca_machine.specs.State.{State, IsModuleOf}
use Rattle.cca_machine.specs.Verdict.{questions, first_refusal}
use Rattle.cca_machine.specs.Act.{Outcome, NoCell, OneCell, Become, new_name}
use Rattle.request_rules.specs.Standing.{StandsInModule}
use Rattle.line_service.specs.Lines.{EndsInNewline}
use Rattle.cca_requests.specs.Serving.{IsEither, SameBut, CarriesModule, LeavesModule}
use Rattle.cca_requests.specs.Changes.{plainly, or_effected, state_name, change_stop, change_reply}
use Rattle.device_cells.proofs.SpareLemmas.{becomes_turned}
use Rattle.cca_requests.proofs.Leaving.{still_module_left}
use Rattle.cca_requests.proofs.Contents.{at_content, becomes_holds, roles_alike, sound}
use Rattle.cca_requests.proofs.Serving.{still_module}

named_alike : (r : NewRegister) → state_name (state_of r) ≡ new_name r
named_alike Empty = refl
named_alike (Partial bytes) = refl
named_alike (Full bytes) = refl

-- what comes of it, by whether rule 25 or 26 is broken
abbrev outcome_by : Bool → Bool → State → Masters → List (Option Entry) → Outcome
outcome_by wrong same s next labels =
    or_effected (first_refusal (questions (codes "-") (check 25 wrong ∷ check 26 same ∷ []) ∷ [])) s (Become next labels)

module _ {A : Type 0} (medium : A → Medium) (old new : A) (s : State) (roles : List (Option Role)) (next : Masters) (labels : List (Option Entry)) (bench : Bench)
    (settled : IsSettled (medium old)) (stands : StandsInModule s roles (medium old)) where
  abbrev after : Outcome
  after = plainly s (Become next labels)

  either : (image : List ℕ) → From (HoldsEither s.registers next) (medium old) image → IsEither IsModuleOf s after image
  either image from = ⊎_elim
      (λ before. inl (record { registers = before; roles = kept }))
      (λ changed. inr (inl (record { registers = changed; roles = kept })))
      from.2.stands
    where
      kept : StandsForRoles image s.roles
      kept = roles_alike from.0 image s.roles from.2.others (at_content (medium old) (IsModuleOf s) stands.in_module from.0 from.1).roles

  on_the_way : (r : Result Registers RegisterFault) → ChangesModule s.registers next (medium old) (medium new) r
      → EachImage (medium old) (medium new) (IsEither IsModuleOf s after)
  on_the_way r changes = each_weaker (medium old) (medium new) (From (HoldsEither s.registers next) (medium old)) (IsEither IsModuleOf s after) changes.moments either

  outside : (r : Result Registers RegisterFault) → ChangesModule s.registers next (medium old) (medium new) r
      → EachImage (medium old) (medium new) (From (SameBut (OneCell 0)) (medium old))
  outside r changes =
      each_weaker (medium old) (medium new) (From (HoldsEither s.registers next) (medium old)) (From (SameBut (OneCell 0)) (medium old)) changes.moments
      (λ image from. (from.0, from.1, record { outside = from.2.outside; others = from.2.others; untouched = from.2.untouched }))

  carried : (r : Result Registers RegisterFault) (reply : List ℕ) → ChangesModule s.registers next (medium old) (medium new) r → IfOk r (λ now. Loaded next now bench)
      → OnOk (change_stop r) (reply ≡ spelled (change_reply r)) → (r ≡ Err RegisterState → ⊥) → (r ≡ Err SamePattern → ⊥)
      → CarriesModule after s (change_stop r) reply roles (medium old) (medium new)
  carried (Ok now) reply changes loaded text state same = record {
    done = record {
      reply_is = text
          ∙ (ap (λ (h : Registers). spelled (Done (Text (codes "new") (state_name h.new_state) ∷ []))) loaded.told
          ∙ ap (λ name. spelled (Done (Text (codes "new") name ∷ []))) (named_alike next.coming));
      stands = record {
        in_module = becomes_holds (medium old) (medium new) (HoldsEither s.registers next) (IsModuleOf s) (λ c. StandsForMasters c next) (IsModuleOf after.state)
            changes.either stands.in_module changes.stands
            (λ d c was by has. record { registers = has; roles = roles_alike d c s.roles by.others was.roles });
        memory = stands.memory;
      };
    };
    moments = on_the_way (Ok now) changes;
    outside = outside (Ok now) changes;
    stops = tt;
  }
  carried (Err DiskFault) reply changes loaded text state same = record {
    done = tt;
    moments = on_the_way (Err DiskFault) changes;
    outside = outside (Err DiskFault) changes;
    stops = tt;
  }
  carried (Err RegisterState) reply changes loaded text state same = absurd (state refl)
  carried (Err SamePattern) reply changes loaded text state same = absurd (same refl)

  refused_by_state : (same : Bool) (r : Result Registers RegisterFault) (reply : List ℕ) → r ≡ Err RegisterState → WhenRefused r (new ≡ old)
      → OnOk (change_stop r) (reply ≡ spelled (change_reply r)) → CarriesModule (outcome_by true same s next labels) s (change_stop r) reply roles (medium old) (medium new)
  refused_by_state same (Ok now) reply is untouched text = cc is
  refused_by_state same (Err DiskFault) reply is untouched text = cc is
  refused_by_state same (Err RegisterState) reply is untouched text =
      subst (λ x. CarriesModule (outcome_by true same s next labels) s (Ok tt) reply roles (medium old) (medium x)) (sym untouched)
      (still_module (outcome_by true same s next labels) s (Ok tt) reply roles (medium old) refl text tt settled stands)
  refused_by_state same (Err SamePattern) reply is untouched text = cc is

  refused_by_pattern : (r : Result Registers RegisterFault) (reply : List ℕ) → r ≡ Err SamePattern → WhenRefused r (new ≡ old)
      → OnOk (change_stop r) (reply ≡ spelled (change_reply r)) → CarriesModule (outcome_by false true s next labels) s (change_stop r) reply roles (medium old) (medium new)
  refused_by_pattern (Ok now) reply is untouched text = cc is
  refused_by_pattern (Err DiskFault) reply is untouched text = cc is
  refused_by_pattern (Err RegisterState) reply is untouched text = cc is
  refused_by_pattern (Err SamePattern) reply is untouched text =
      subst (λ x. CarriesModule (outcome_by false true s next labels) s (Ok tt) reply roles (medium old) (medium x)) (sym untouched)
      (still_module (outcome_by false true s next labels) s (Ok tt) reply roles (medium old) refl text tt settled stands)

  pub changes_as : (wrong same : Bool) (r : Result Registers RegisterFault) (reply : List ℕ) → ((r ≡ Err RegisterState) ↔ IsTrue wrong) → ((r ≡ Err SamePattern) ↔ IsTrue same)
      → ChangesModule s.registers next (medium old) (medium new) r → WhenRefused r (new ≡ old) → IfOk r (λ now. Loaded next now bench)
      → OnOk (change_stop r) (reply ≡ spelled (change_reply r)) → CarriesModule (outcome_by wrong same s next labels) s (change_stop r) reply roles (medium old) (medium new)
  changes_as true same r reply state pattern changes untouched loaded text = refused_by_state same r reply (state.1 refl) untouched text
  changes_as false true r reply state pattern changes untouched loaded text = refused_by_pattern r reply (pattern.1 refl) untouched text
  changes_as false false r reply state pattern changes untouched loaded text =
      carried r reply changes loaded text (λ is. let no : false ≡ true = state.0 is in cc no) (λ is. let no : false ≡ true = pattern.0 is in cc no)

  -- where no cell is written, no device is called
  pub still_as : (wrong same : Bool) (r : Result Registers RegisterFault) → ((r ≡ Err RegisterState) ↔ IsTrue wrong) → ((r ≡ Err SamePattern) ↔ IsTrue same)
      → WhenRefused r (new ≡ old) → (outcome_by wrong same s next labels).module_cells ≡ NoCell → new ≡ old
  still_as true same r state pattern untouched none = subst (λ (x : Result Registers RegisterFault). WhenRefused x (new ≡ old)) (state.1 refl) untouched
  still_as false true r state pattern untouched none = subst (λ (x : Result Registers RegisterFault). WhenRefused x (new ≡ old)) (pattern.1 refl) untouched
  still_as false false r state pattern untouched none = cc none

-- ---- whatever the module holds

module _ {A : Type 0} (medium : A → Medium) (faults : A → ℕ) (old new : A) (m next : Masters) (roles : List (Option Role))
    (settled : IsSettled (medium old)) (stands : Told (medium old) (λ image. StandsForMasters image m))
    (also : Told (medium old) (λ image. StandsForRoles image roles)) (later : faults old ≤ faults new) where
  refused_left : (reply : List ℕ) → EndsInNewline reply → new ≡ old → LeavesModule (medium old) (medium new) (faults old) (faults new) (Ok tt) reply roles roles
  refused_left reply line untouched =
      subst (λ x. LeavesModule (medium old) (medium x) (faults old) (faults x) (Ok tt) reply roles roles) (sym untouched)
      (still_module_left (medium old) (faults old) reply roles line settled (sound (medium old) m roles stands also))

  -- what an action leaves
  pub left_as : (r : Result Registers RegisterFault) (reply : List ℕ) → ChangesModule m next (medium old) (medium new) r → WhenRefused r (new ≡ old)
      → (r ≡ Err DiskFault → Rose (faults old) (faults new)) → ((r ≡ Err DiskFault → ⊥) → faults new ≡ faults old)
      → OnOk (change_stop r) (EndsInNewline reply) → OnErr (change_stop r) (reply ≡ [])
      → LeavesModule (medium old) (medium new) (faults old) (faults new) (change_stop r) reply roles roles
  left_as (Ok now) reply changes untouched cause quiet line silent = record {
    disk = record { size = changes.either.size; still = changes.either.still; settled = λ ok. changes.settled; later = later; fault = λ is. cc is; quiet = λ none. quiet (λ is. cc is) };
    told = told_before (HoldsEither m next) (medium old) (medium new) changes.either;
    turned = becomes_turned 0 33 (medium old) (medium new) (registers_body next) changes.replaced;
    sound = sound (medium new) next roles changes.stands
        (becomes_told (medium old) (medium new) (HoldsEither m next) (λ image. StandsForRoles image roles) (λ image. StandsForRoles image roles)
        changes.either also (λ d c p h. roles_alike d c roles h.others p));
    line = line;
    silent = tt;
    memory = tt;
    stops = tt;
  }
  left_as (Err DiskFault) reply changes untouched cause quiet line silent = record {
    disk = record { size = changes.either.size; still = changes.either.still; settled = λ ok. absurd (cc ok); later = later; fault = λ is. cause refl; quiet = λ none. absurd (none refl) };
    told = told_before (HoldsEither m next) (medium old) (medium new) changes.either;
    turned = tt;
    sound = tt;
    line = tt;
    silent = silent;
    memory = refl;
    stops = refl;
  }
  left_as (Err RegisterState) reply changes untouched cause quiet line silent = refused_left reply line untouched
  left_as (Err SamePattern) reply changes untouched cause quiet line silent = refused_left reply line untouched
