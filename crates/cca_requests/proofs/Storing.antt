-- A change of the records is what the machine makes of it.
use Rattle.std.proofs.Common.{◌≡◌, ◌≢◌, ℕ, Bool, true, false, List, [], ◌∷◌, Option, None, Some, Result, Ok, Err, codes, refl, sym, ap, ◌∙◌, subst, inl, inr, ⊎_elim, arith}
use Rattle.std.specs.Prelude.{◌⊎◌, ◌↔◌, ◌==◌, IsTrue, OnOk, OnErr, IfErr, is_some}
use Rattle.std.proofs.lemmas.Bool.{false_from_ne_true}
use Rattle.std.proofs.lemmas.Bool.Decides.{Decides-eqb}
use Rattle.key_cells.specs.declared.leases.Lease.{Lease}
use Rattle.device_cells.specs.Cells.{IsReplacing}
use Rattle.device_cells.specs.Medium.{Medium, Told, IsSettled, From}
use Rattle.device_cells.proofs.Media.{each_weaker, told_from, told_before}
use Rattle.cca_vectors.specs.Checks.{check}
use Rattle.key_records.specs.Changes.{HoldsEither, ChangesLabels, ChangesRecord, RefusesLabel, Remembers}
use Rattle.record_bodies.specs.LabelChanges.{created, deleted, written}
use Rattle.record_bodies.specs.Directory.{free_cell, cell_of}
use Rattle.record_bodies.specs.Entries.{Entry, directory, row_directory}
use Rattle.record_bodies.specs.StoreStands.{KeepsLabels, HoldsRows}
use Rattle.key_records.specs.declared.faults.RecordFault.{RecordFault}
use Rattle.key_records.specs.declared.faults.RecordFault.TheVariants.{DiskFault, Damaged, Full, Exists}
use Rattle.record_bodies.specs.declared.rows.Row.{Row}
use Rattle.key_records.proofs.StoreLaws.{same_directory}
use Rattle.line_service.specs.Replies.{Done, Refused, spelled}
use Rattle.line_service.specs.declared.stops.Stop.{Stop}
use Rattle.line_service.specs.declared.stops.Stop.TheVariants.{StoreFault}
use Rattle.verb_rules.specs.Keys.{keys_of}
use Rattle.cca_machine.specs.State.{State, IsStoreOf}
use Rattle.cca_machine.specs.Verdict.{refusal, questions, first_refusal}
use Rattle.verb_script.specs.Grammar.{Request}
use Rattle.cca_machine.specs.Act.{Effect, Create, Delete, Write, Cells, OneCell, Outcome, cell_or_none, deleted_in, effected, refused, written_in}
use Rattle.request_rules.specs.Standing.{StandsInStore}
use Rattle.line_service.specs.Lines.{EndsInNewline}
use Rattle.cca_requests.specs.Serving.{IsEither, SameBut, CarriesStore, LeavesStore}
use Rattle.cca_machine.specs.Deciding.{IsDeleted, IsRecorded, IsWritten}
use Rattle.cca_requests.specs.Changes.{or_effected, plainly, record_stop, record_reply}
use Rattle.device_cells.proofs.SpareLemmas.{becomes_turned}
use Rattle.cca_requests.proofs.Leaving.{still_store_left}
use Rattle.cca_requests.proofs.Contents.{at_content, holds_at}
use Rattle.cca_requests.proofs.Serving.{still_store, told_some}

-- what comes of holding another label, by whether rule 28 or 29 is broken
abbrev created_by : Bool → Bool → State → List ℕ → Outcome
created_by full exists s label =
    or_effected (first_refusal (questions (codes "label") (check 28 full ∷ check 29 exists ∷ []) ∷ [])) s (Create label)

-- the memory knows the labels that the store stands for
pub kept_labels : (s : State) (rows : List (Option Row)) (d : Medium) → StandsInStore s rows d → Told d (KeepsLabels (keys_of s.registers) rows s.labels)
kept_labels s rows d stands = told_from d.content (KeepsLabels (keys_of s.registers) rows s.labels)
    (λ c is. record { stands = at_content d (IsStoreOf s) stands.in_store c is; agrees = stands.agrees })

pub recorded : (s : State) (rows : List (Option Row)) (d : Medium) → StandsInStore s rows d → IsRecorded s rows
recorded s rows d stands = record { image = stands.in_store.image; keeps = record { stands = stands.in_store.has; agrees = stands.agrees } }

-- the labels of the state are those that the memory knows
pub known_directory : (s : State) (rows : List (Option Row)) (d : Medium) → StandsInStore s rows d → directory s.labels ≡ row_directory rows
known_directory s rows d stands = same_directory (keys_of s.registers) rows s.labels stands.agrees

module _ (d0 d1 : Medium) (s : State) (rows later : List (Option Row)) (stands : StandsInStore s rows d0)
    (cell : ℕ) (next : List (Option Entry)) (o : Outcome) (state_is : o.state ≡ record s { labels = next }) (cell_is : o.store_cells ≡ OneCell cell) where
  either : (image : List ℕ) → From (HoldsEither (keys_of s.registers) cell s.labels next) d0 image → IsEither IsStoreOf s o image
  either image from = ⊎_elim (λ before. inl before) (λ after. inr (inl (subst (λ (x : State). IsStoreOf x image) (sym state_is) after))) from.2.stands

  outside : (image : List ℕ) → From (HoldsEither (keys_of s.registers) cell s.labels next) d0 image → From (SameBut o.store_cells) d0 image
  outside image from = (
    from.0,
    from.1,
    subst (λ (n : Cells). SameBut n from.0 image) (sym cell_is)
        (record { outside = from.2.outside; others = from.2.others; untouched = from.2.untouched }),
  )

  -- the labels became others
  pub stored : (u : Unit {0}) (reply : List ℕ) → ChangesLabels (keys_of s.registers) cell s.labels next later d0 d1 (Ok u) → reply ≡ spelled o.reply
      → CarriesStore o s (Ok tt) reply later d0 d1
  stored u reply changes text = record {
    done = record { reply_is = text; stands = subst (λ (x : State). StandsInStore x later d1) (sym state_is) after };
    moments = each_weaker d0 d1 (From (HoldsEither (keys_of s.registers) cell s.labels next) d0) (IsEither IsStoreOf s o) changes.moments either;
    outside = each_weaker d0 d1 (From (HoldsEither (keys_of s.registers) cell s.labels next) d0) (From (SameBut o.store_cells) d0) changes.moments outside;
    stops = tt;
  }
    where
      after : StandsInStore (record s { labels = next }) later d1
      after =
          let holds = holds_at d1.content d1 (KeepsLabels (keys_of s.registers) later next) refl
          (changes.either.still (told_some d0 stands.in_store.image stands.in_store.told)) changes.keeps in
          record {
            in_store = record { image = holds.image; told = holds.told; has = holds.has.stands };
            agrees = holds.has.agrees;
          }

  -- the store failed on the way
  pub failed : (fault : RecordFault) (reply : List ℕ) → ChangesLabels (keys_of s.registers) cell s.labels next later d0 d1 (Err fault)
      → CarriesStore o s (Err StoreFault) reply later d0 d1
  failed fault reply changes = record {
    done = tt;
    moments = each_weaker d0 d1 (From (HoldsEither (keys_of s.registers) cell s.labels next) d0) (IsEither IsStoreOf s o) changes.moments either;
    outside = each_weaker d0 d1 (From (HoldsEither (keys_of s.registers) cell s.labels next) d0) (From (SameBut o.store_cells) d0) changes.moments outside;
    stops = tt;
  }

-- a change of one record that no rule refuses: the store fails, or the labels become others
abbrev changed_stop : Result (Unit {0}) RecordFault → Result (Unit {0}) Stop
changed_stop (Ok done) = Ok tt
changed_stop (Err fault) = Err StoreFault

module _ (d0 d1 : Medium) (s : State) (rows later : List (Option Row)) (stands : StandsInStore s rows d0) (cell : ℕ) (reply : List ℕ) where
  changed : (next : List (Option Entry)) (o : Outcome) → o.state ≡ record s { labels = next } → o.store_cells ≡ OneCell cell → (r : Result (Unit {0}) RecordFault)
      → ChangesLabels (keys_of s.registers) cell s.labels next later d0 d1 r → OnOk r (reply ≡ spelled o.reply) → CarriesStore o s (changed_stop r) reply later d0 d1
  changed next o state_is cell_is (Ok u) changes text = stored d0 d1 s rows later stands cell next o state_is cell_is u reply changes text
  changed next o state_is cell_is (Err fault) changes text = failed d0 d1 s rows later stands cell next o state_is cell_is fault reply changes

  pub deletes_as : (e : Effect) → IsDeleted s e cell → (r : Result (Unit {0}) RecordFault)
      → ChangesLabels (keys_of s.registers) cell s.labels (deleted cell s.labels) later d0 d1 r → OnOk r (reply ≡ spelled (Done []))
      → CarriesStore (plainly s e) s (changed_stop r) reply later d0 d1
  deletes_as e gone r changes text =
      subst (λ (x : Effect). CarriesStore (plainly s x) s (changed_stop r) reply later d0 d1) (sym gone.is)
      (changed (deleted cell s.labels) (plainly s (Delete gone.label))
      (ap (λ (n : Option ℕ). let later : State = record s { labels = deleted_in n s.labels } in later) gone.placed) (ap cell_or_none gone.placed) r changes text)

  pub writes_as : (request : Request) (e : Effect) (token before : List ℕ) (goes : IsWritten s e cell token before) → (r : Result (Unit {0}) RecordFault)
      → ChangesLabels (keys_of s.registers) cell s.labels (written cell goes.key s.labels) later d0 d1 r
      → OnOk r (reply ≡ spelled (effected s request (Write goes.label goes.key goes.fields)).reply) → CarriesStore (effected s request e) s (changed_stop r) reply later d0 d1
  writes_as request e token before goes r changes text =
      subst (λ (x : Effect). CarriesStore (effected s request x) s (changed_stop r) reply later d0 d1) (sym goes.is)
      (changed (written cell goes.key s.labels) (effected s request (Write goes.label goes.key goes.fields))
      (ap (λ (n : Option ℕ). let later : State = record s { labels = written_in n goes.key s.labels } in later) goes.placed) (ap cell_or_none goes.placed) r changes text)

-- ---- another label

some_held : (cell : Option ℕ) → cell ≢ None → is_some cell ≡ true
some_held None held = absurd (held refl)
some_held (Some n) held = refl

held_some : (cell : Option ℕ) → is_some cell ≡ true → cell ≢ None
held_some None is = cc is
held_some (Some n) is = λ none. cc none

-- rule 28 is broken where the memory knows a label of each cell
pub full_as : (r : Result (Unit {0}) RecordFault) (labels known : List (Option (List ℕ))) → labels ≡ known
    → ((r ≡ Err Full) ↔ (free_cell known ≡ 1024)) → ((r ≡ Err Full) ↔ IsTrue (free_cell labels == 1024))
full_as r labels known same rule =
    let tests = Decides-eqb (free_cell labels) 1024 in
    let cell : free_cell labels ≡ free_cell known = ap free_cell same in
    (λ is. tests.1 (cell ∙ rule.0 is), λ is. rule.1 (sym cell ∙ tests.0 is))

-- and rule 29 where it knows the label
pub exists_as : (r : Result (Unit {0}) RecordFault) (label : List ℕ) (labels known : List (Option (List ℕ))) → labels ≡ known
    → ((r ≡ Err Exists) ↔ ((free_cell known ≢ 1024) × (cell_of label known ≢ None)))
    → ((r ≡ Err Exists) ↔ (((free_cell labels == 1024) ≡ false) × IsTrue (is_some (cell_of label labels))))
exists_as r label labels known same rule =
    let tests = Decides-eqb (free_cell labels) 1024 in
    let cell : free_cell labels ≡ free_cell known = ap free_cell same in
    let place : cell_of label labels ≡ cell_of label known = ap (cell_of label) same in (
      λ is.
          let both = rule.0 is in
          (false_from_ne_true (free_cell labels == 1024) (λ test. both.0 (sym cell ∙ tests.0 test)), ap (λ o. is_some o) place ∙ some_held (cell_of label known) both.1),
      λ both. rule.1 (
        λ is. let no : false ≡ true = sym both.0 ∙ tests.1 (cell ∙ is) in cc no,
        held_some (cell_of label known) (sym (ap (λ o. is_some o) place) ∙ both.1),
      ),
    )

module _ {A : Type 0} (medium : A → Medium) (old new : A) (s : State) (rows later : List (Option Row)) (label reply : List ℕ)
    (settled : IsSettled (medium old)) (stands : StandsInStore s rows (medium old)) where
  abbrev cell : ℕ
  cell = free_cell (row_directory rows)

  abbrev after : Outcome
  after = created_by false false s label

  cell_is : after.store_cells ≡ OneCell cell
  cell_is = ap (λ d. OneCell (free_cell d)) (known_directory s rows (medium old) stands)

  -- a rule refuses it
  refused_as : (rule : ℕ) → new ≡ old → later ≡ rows → reply ≡ spelled (Refused rule (codes "label"))
      → CarriesStore (refused s (refusal rule (codes "label"))) s (Ok tt) reply later (medium old) (medium new)
  refused_as rule untouched memory text =
      subst (λ x. CarriesStore (refused s (refusal rule (codes "label"))) s (Ok tt) reply later (medium old) (medium x)) (sym untouched)
      (subst (λ rs. CarriesStore (refused s (refusal rule (codes "label"))) s (Ok tt) reply rs (medium old) (medium old)) (sym memory)
      (still_store (refused s (refusal rule (codes "label"))) s (Ok tt) reply rows (medium old) refl text tt settled stands))

  pub creates_as : (full exists : Bool) (next : List (Option Row)) (r : Result (Unit {0}) RecordFault)
      → ((r ≡ Err Full) ↔ IsTrue full) → ((r ≡ Err Exists) ↔ ((full ≡ false) × IsTrue exists))
      → ChangesLabels (keys_of s.registers) cell s.labels (created label s.labels) later (medium old) (medium new) r
      → ((r ≡ Err Full) ⊎ (r ≡ Err Exists) → new ≡ old) → Remembers rows next later r → OnOk (record_stop r) (reply ≡ spelled (record_reply r))
      → CarriesStore (created_by full exists s label) s (record_stop r) reply later (medium old) (medium new)
  creates_as true exists next (Ok u) full_is exists_is changes untouched memory text = let no = full_is.1 refl in cc no
  creates_as true exists next (Err DiskFault) full_is exists_is changes untouched memory text = let no = full_is.1 refl in cc no
  creates_as true exists next (Err (Damaged n)) full_is exists_is changes untouched memory text = let no = full_is.1 refl in cc no
  creates_as true exists next (Err Full) full_is exists_is changes untouched memory text = refused_as 28 (untouched (inl refl)) memory.kept text
  creates_as true exists next (Err Exists) full_is exists_is changes untouched memory text = let no = full_is.1 refl in cc no
  creates_as false true next (Ok u) full_is exists_is changes untouched memory text = let no = exists_is.1 (refl, refl) in cc no
  creates_as false true next (Err DiskFault) full_is exists_is changes untouched memory text = let no = exists_is.1 (refl, refl) in cc no
  creates_as false true next (Err (Damaged n)) full_is exists_is changes untouched memory text = let no = exists_is.1 (refl, refl) in cc no
  creates_as false true next (Err Full) full_is exists_is changes untouched memory text = let no = exists_is.1 (refl, refl) in cc no
  creates_as false true next (Err Exists) full_is exists_is changes untouched memory text = refused_as 29 (untouched (inr refl)) memory.kept text
  creates_as false false next (Ok u) full_is exists_is changes untouched memory text =
      stored (medium old) (medium new) s rows later stands cell (created label s.labels) after refl cell_is u reply changes text
  creates_as false false next (Err DiskFault) full_is exists_is changes untouched memory text =
      failed (medium old) (medium new) s rows later stands cell (created label s.labels) after refl cell_is DiskFault reply changes
  creates_as false false next (Err (Damaged n)) full_is exists_is changes untouched memory text =
      failed (medium old) (medium new) s rows later stands cell (created label s.labels) after refl cell_is (Damaged n) reply changes
  creates_as false false next (Err Full) full_is exists_is changes untouched memory text = let no : false ≡ true = full_is.0 refl in cc no
  creates_as false false next (Err Exists) full_is exists_is changes untouched memory text = let no : false ≡ true = (exists_is.0 refl).1 in cc no

-- ---- whatever the store holds

-- a label isn't held for this fault alone
pub create_fault : (r : Result (Unit {0}) RecordFault) → IfErr (record_stop r) (λ stop. stop ≡ StoreFault)
create_fault (Ok done) = tt
create_fault (Err DiskFault) = refl
create_fault (Err (Damaged n)) = refl
create_fault (Err Full) = tt
create_fault (Err Exists) = tt

module _ {A : Type 0} (medium : A → Medium) (faults : A → ℕ) (old new : A) (rows later : List (Option Row)) (reply : List ℕ) (cell : ℕ) (bytes : List ℕ) (row : Option Row) (lease after : Lease) where
  abbrev Changed : Result (Unit {0}) RecordFault → Type 0
  Changed r = ChangesRecord medium faults cell bytes row rows later lease after old new r

  abbrev Left : Result (Unit {0}) Stop → Type 0
  Left result = LeavesStore (medium old) (medium new) (faults old) (faults new) result reply rows later

  pub stored_left : (u : Unit {0}) → EndsInNewline reply → Changed (Ok u) → Left (Ok tt)
  stored_left u line changes =
      let quiet : faults new ≡ faults old = changes.cause.quiet (λ is. cc is) in
      record {
        disk = record { size = changes.cell.replacing.size; still = changes.cell.replacing.still; settled = λ ok. changes.cell.settled; later = omega (arith, quiet); fault = λ is. cc is; quiet = λ none. quiet };
        told = told_before (IsReplacing cell bytes) (medium old) (medium new) changes.cell.replacing;
        turned = becomes_turned cell 1024 (medium old) (medium new) bytes changes.cell.replaced;
        holds = changes.holds;
        line = line;
        silent = tt;
        memory = tt;
        stops = tt;
      }

  failed_left : Changed (Err DiskFault) → reply ≡ [] → Left (Err StoreFault)
  failed_left changes silent = record {
    disk = record { size = changes.cell.replacing.size; still = changes.cell.replacing.still; settled = λ ok. absurd (cc ok); later = changes.cause.later; fault = λ is. changes.cause.failed refl; quiet = λ none. absurd (none refl) };
    told = told_before (IsReplacing cell bytes) (medium old) (medium new) changes.cell.replacing;
    turned = tt;
    holds = tt;
    line = tt;
    silent = silent;
    memory = ap row_directory changes.memory.kept;
    stops = tt;
  }

  module _ (settled : IsSettled (medium old)) (holds : Told (medium old) (HoldsRows rows)) where
    refused_left : EndsInNewline reply → new ≡ old → later ≡ rows → Left (Ok tt)
    refused_left line untouched memory =
        subst (λ x. LeavesStore (medium old) (medium x) (faults old) (faults x) (Ok tt) reply rows later) (sym untouched)
        (subst (λ rs. LeavesStore (medium old) (medium old) (faults old) (faults old) (Ok tt) reply rows rs) (sym memory)
        (still_store_left (medium old) (faults old) reply rows line settled holds))

    -- what holding another label leaves
    pub create_left_as : (held : List (Option (List ℕ))) (label : List ℕ) (r : Result (Unit {0}) RecordFault) → Changed r → RefusesLabel held label lease after old new r
        → OnOk (record_stop r) (EndsInNewline reply) → OnErr (record_stop r) (reply ≡ []) → Left (record_stop r)
    create_left_as held label (Ok u) changes refuses line silent = stored_left u line changes
    create_left_as held label (Err DiskFault) changes refuses line silent = failed_left changes silent
    create_left_as held label (Err (Damaged n)) changes refuses line silent = absurd (refuses.undamaged n refl)
    create_left_as held label (Err Full) changes refuses line silent = refused_left line (refuses.untouched (inl refl)) changes.memory.kept
    create_left_as held label (Err Exists) changes refuses line silent = refused_left line (refuses.untouched (inr refl)) changes.memory.kept
