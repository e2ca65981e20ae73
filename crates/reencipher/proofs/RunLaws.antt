-- A run, cell by cell upwards.
use Rattle.std.proofs.Common.{◌≡◌, ◌≤◌, ◌<◌, ◌+◌, ⊎_elim, ℕ, List, length, Option, None, Some, Result, Ok, Err, Bool, true, false, cond, refl, sym, ap, subst, ◌∙◌, arith}
use Rattle.std.specs.Prelude.{IsSome, IfSome}
use Rattle.key_cells.specs.Lease.{bench_of, holding}
use Rattle.key_cells.specs.declared.leases.Lease.{Lease}
use Rattle.key_cells.specs.declared.places.KeyPlace.TheVariants.{Key}
use Rattle.device_cells.specs.Medium.{Medium, Told, IsSettled, From, Becomes, EachImage}
use Rattle.device_cells.proofs.Media.{told_from, told_at, each_weaker, each_still, goes_on, becomes_same, becomes_both, becomes_then}
use Rattle.key_tokens.specs.Denotes.{MasterKeys, HaveDistinctPatterns}
use Rattle.multi_encipher.specs.Bundles.{ChangesKeyAt}
use Rattle.key_records.specs.Changes.{ChangesKeyAndBody, KeepsAllButBody}
use Rattle.record_bodies.specs.Entries.{Entry}
use Rattle.record_bodies.specs.StoreStands.{StandsForLabels, KeepsLabels, Agrees, entry_at}
use Rattle.key_records.specs.declared.faults.RecordFault.{RecordFault}
use Rattle.record_bodies.specs.declared.rows.Row.{Row}
use Rattle.record_bodies.proofs.OneBody.{one_body}
use Rattle.record_bodies.specs.Further.{further, is_changed, changed_count}
use Rattle.reencipher.specs.Runs.{IsChanged, LeavesOld, LeavesRest, IsOnTheWay, Reenciphers}
use Rattle.reencipher.specs.Turns.{changed_at, HoldsTurn, LeavesOther, ChangesCell}
use Rattle.record_bodies.specs.declared.actions.StoreAction.{StoreAction}
use Rattle.reencipher.proofs.CellLaws.{leaves_none, leaves_no_old, leaves_more, leaves_more_old, leaves_all}
use Rattle.record_bodies.proofs.FurtherLaws.{further_none, further_next, length-further, changed_all, changed_step}

-- ---- a store on the way

module _ (a : StoreAction) (masters : MasterKeys) (apart : HaveDistinctPatterns masters) (s : List (Option Entry)) where
  pub on_the_way : (cells : ℕ) (old new : List ℕ) → cells ≤ 1024 → StandsForLabels masters new (further a s cells) → LeavesRest a s cells old new → IsOnTheWay a masters s old new
  on_the_way cells old new within stands rest = record {
    cells = cells;
    within = within;
    stands = stands;
    bodies = λ n below. one_body masters apart _ (entry_at (further a s cells) n) (stands.reads n below);
    rest = leaves_all (IsChanged a s) cells old new within rest;
  }

  turn_on_the_way : (cell : ℕ) (b c d : List ℕ) → cell < 1024 → LeavesRest a s cell b c → HoldsTurn a masters cell (further a s cell) c d → IsOnTheWay a masters s b d
  turn_on_the_way cell b c d within first turn =
      let more = leaves_more a masters s cell b c d first turn in
      ⊎_elim
      (λ (was : StandsForLabels masters d (further a s cell)).
      record { cells = cell; within = omega (arith, within); stands = was; bodies = λ n below. one_body masters apart _ (entry_at (further a s cell) n) (was.reads n below); rest = leaves_all (IsChanged a s) (cell + 1) b d (omega (arith, within)) more })
      (λ (after : StandsForLabels masters d (changed_at a cell (further a s cell))).
      on_the_way (cell + 1) b d (omega (arith, within)) (subst (StandsForLabels masters d) (sym (further_next a s cell)) after) more)
      turn.stands

-- ---- what is told later

pub told_later : (m0 m1 : Medium) (X : Type 0) → (IsSome m0.content → IsSome m1.content) → Told m1 (λ _. X) → Told m0 (λ _. X)
told_later m0 m1 X still told = told_from m0.content (λ _. X) (λ c is. from_some m1.content (still (subst (λ (o : Option (List ℕ)). IsSome o) (sym is) refl)) told)
  where
    from_some : (o : Option (List ℕ)) → IsSome o → IfSome o (λ _. X) → X
    from_some None some told = let wrong : false ≡ true = some in absurd (cc)
    from_some (Some c) some told = told

pub told_as : (m : Medium) (P : List ℕ → Type 0) (X : Type 0) → Told m P → ((c : List ℕ) → P c → X) → Told m (λ _. X)
told_as m P X told weaker = told_from m.content (λ _. X) (λ c is. weaker c (told_at m.content P c is told))

-- ---- the loop

-- what a run has left below a cell
abbrev pub LeavesSoFar : StoreAction → List (Option Entry) → ℕ → List ℕ → List ℕ → Type 0
LeavesSoFar a s cell old new = LeavesRest a s cell old new × LeavesOld a s cell old new

-- every label in a cell below is what the action makes of it, and the number of those that it changed is counted
pub record Reaches (a : StoreAction) (masters : MasterKeys) (s : List (Option Entry)) (cell changed : ℕ) (rows : List (Option Row)) (m0 m1 : Medium) : Type 0 where
  pub keeps : Told m1 (KeepsLabels masters rows (further a s cell))
  pub count : Told m0 (λ _. changed + changed_count a (further a s cell) ≡ changed_count a s)
  pub rest : Becomes (LeavesSoFar a s cell) m0 m1
  pub moments : EachImage m0 m1 (From (IsOnTheWay a masters s) m0)

module _ (a : StoreAction) (masters : MasterKeys) (apart : HaveDistinctPatterns masters) (s : List (Option Entry)) where
  pub reaches_start : (rows : List (Option Row)) (m : Medium) → IsSettled m → Told m (KeepsLabels masters rows s) → Reaches a masters s 0 0 rows m m
  reaches_start rows m settled told = record {
    keeps = subst (λ (t : List (Option Entry)). Told m (KeepsLabels masters rows t)) (sym (further_none a s)) told;
    count = told_as m (KeepsLabels masters rows s) (0 + changed_count a (further a s 0) ≡ changed_count a s) told (λ c keeps. omega (arith, ap (changed_count a) (further_none a s)));
    rest = becomes_same m m (LeavesSoFar a s 0) refl refl (λ c. (leaves_none (IsChanged a s) c, leaves_no_old a s c));
    moments = each_weaker m m m.images (From (IsOnTheWay a masters s) m) (each_still m) (λ c image.
        let is = settled.only c image in (
          c,
          is,
          on_the_way a masters apart s 0 c c (omega arith)
              (subst (StandsForLabels masters c) (sym (further_none a s)) (told_at m.content (KeepsLabels masters rows s) c is told).stands) (leaves_none (IsChanged a s) c),
        ));
  }

  module _ (cell changed : ℕ) (rows now : List (Option Row)) (m0 m1 m2 : Medium) (within : cell < 1024)
      (so_far : Reaches a masters s cell changed rows m0 m1) where
    step_from : (d : List ℕ) → From (HoldsTurn a masters cell (further a s cell)) m1 d → From (IsOnTheWay a masters s) m0 d
    step_from d from =
        let was = so_far.rest.told from.0 from.1 in
        (was.0, was.1, turn_on_the_way a masters apart s cell was.0 from.0 d within was.2.0 from.2)

    turn_moments : (r : Result Bool RecordFault) → ChangesCell a masters cell (further a s cell) rows now m1 m2 r → EachImage m0 m2 (From (IsOnTheWay a masters s) m0)
    turn_moments r changes =
        goes_on m0 m1 m2 (From (IsOnTheWay a masters s) m0) (From (HoldsTurn a masters cell (further a s cell)) m1) (From (IsOnTheWay a masters s) m0)
        so_far.moments changes.moments (λ c from. from) step_from

    counted_more : (done : Bool) → length s ≡ 1024 → changed + changed_count a (further a s cell) ≡ changed_count a s → done ≡ is_changed a (entry_at (further a s cell) cell)
        → changed + cond done 1 0 + changed_count a (further a s (cell + 1)) ≡ changed_count a s
    counted_more done size counted is =
        let step = changed_step a s cell (omega (arith, within, size)) in
        let added : ◌≡◌ {A = ℕ} (cond done 1 0) (cond (is_changed a (entry_at (further a s cell) cell)) 1 0) = ap (λ t. cond t 1 0) is in
        omega (arith, counted, step, added)

    pub reaches_next : (done : Bool) → ChangesCell a masters cell (further a s cell) rows now m1 m2 (Ok done) → Reaches a masters s (cell + 1) (changed + cond done 1 0) now m0 m2
    reaches_next done changes = record {
      keeps = subst (λ (t : List (Option Entry)). Told m2 (KeepsLabels masters now t)) (sym (further_next a s cell)) changes.keeps;
      count = told_from m0.content (λ _. changed + cond done 1 0 + changed_count a (further a s (cell + 1)) ≡ changed_count a s) (λ c is.
          let at : (d : List ℕ) × (m1.content ≡ Some d) = some_content m1.content (so_far.rest.still (subst (λ (o : Option (List ℕ)). IsSome o) (sym is) refl)) in
          counted_more done (sym (length-further a s cell) ∙ (told_at m1.content (KeepsLabels masters rows (further a s cell)) at.0 at.1 so_far.keeps).stands.size)
          (told_at m0.content (λ _. changed + changed_count a (further a s cell) ≡ changed_count a s) c is so_far.count)
          (told_at m1.content (λ _. done ≡ is_changed a (entry_at (further a s cell) cell)) at.0 at.1 changes.count));
      rest = becomes_then m0 m1 m2 (LeavesSoFar a s cell) (λ c d. HoldsTurn a masters cell (further a s cell) c d × LeavesOther a cell (further a s cell) c d) (LeavesSoFar a s (cell + 1)) so_far.rest
          (becomes_both m1 m2 (HoldsTurn a masters cell (further a s cell)) (LeavesOther a cell (further a s cell)) changes.either changes.other)
          (λ b c d first turn. (leaves_more a masters s cell b c d first.0 turn.0, leaves_more_old a masters s cell b c d first.0 turn.0 first.1 turn.1));
      moments = turn_moments (Ok done) changes;
    }
      where
        some_content : (o : Option (List ℕ)) → IsSome o → (d : List ℕ) × (o ≡ Some d)
        some_content None some = let wrong : false ≡ true = some in absurd (cc)
        some_content (Some d) some = (d, refl)

    -- the run ends at a cell
    pub ends_at : (fault : RecordFault) → ChangesCell a masters cell (further a s cell) rows now m1 m2 (Err fault) → Reenciphers a masters s now m0 m2 (Err fault)
    ends_at fault changes = record {
      keeps = tt;
      others = tt;
      count = tt;
      ended = told_later m0 m1 ((n : ℕ) × (n < 1024) × Agrees masters now (further a s n)) so_far.rest.still
          (told_as m1 (KeepsLabels masters rows (further a s cell)) ((n : ℕ) × (n < 1024) × Agrees masters now (further a s n)) so_far.keeps
          (λ c keeps. (cell, within, changes.kept ∙ keeps.agrees)));
      either = becomes_then m0 m1 m2 (LeavesSoFar a s cell) (HoldsTurn a masters cell (further a s cell)) (IsOnTheWay a masters s) so_far.rest changes.either
          (λ b c d first turn. turn_on_the_way a masters apart s cell b c d within first.0 turn);
      moments = turn_moments (Err fault) changes;
    }

  -- the run goes through all cells
  pub ends_whole : (cell changed : ℕ) (rows : List (Option Row)) (m0 m1 : Medium) → cell ≡ 1024 → Reaches a masters s cell changed rows m0 m1 → Reenciphers a masters s rows m0 m1 (Ok changed)
  ends_whole cell changed rows m0 m1 all reached = record {
    keeps = subst (λ n. Told m1 (KeepsLabels masters rows (further a s n))) all reached.keeps;
    count = told_from m0.content (λ _. changed ≡ changed_count a s) (λ c is.
        let size : length s ≡ 1024 = told_at m0.content (λ _. length s ≡ 1024) c is
        (told_later m0 m1 (length s ≡ 1024) reached.rest.still (told_as m1 (KeepsLabels masters rows (further a s cell)) (length s ≡ 1024) reached.keeps (λ d keeps. sym (length-further a s cell) ∙ keeps.stands.size))) in
        let counted = told_at m0.content (λ _. changed + changed_count a (further a s cell) ≡ changed_count a s) c is reached.count in
        let none : changed_count a (further a s cell) ≡ 0 = changed_all a s cell (omega (arith, size, all)) in
        omega (arith, counted, none));
    others = record {
      size = reached.rest.size;
      told = λ d is. let from = reached.rest.told d is in (from.0, from.1, subst (λ n. LeavesOld a s n from.0 d) all from.2.1);
      still = reached.rest.still;
    };
    ended = tt;
    either = record {
      size = reached.rest.size;
      told = λ d is.
          let from = reached.rest.told d is in
          (from.0, from.1, on_the_way a masters apart s cell from.0 d (omega (arith, all)) (told_at m1.content (KeepsLabels masters rows (further a s cell)) d is reached.keeps).stands from.2.0);
      still = reached.rest.still;
    };
    moments = reached.moments;
  }

-- ---- the lease

pub changes_none : (lease : Lease) → ChangesKeyAndBody lease lease
changes_none lease = refl

pub changes_more : (a b c : Lease) → ChangesKeyAndBody a b → ChangesKeyAndBody b c → ChangesKeyAndBody a c
changes_more a b c first second =
    second ∙ ap (λ (l : Lease). holding l (record (bench_of l) { key = (bench_of c).key; schedules = (bench_of c).schedules; body = (bench_of c).body })) first

-- where the body alone has changed, or the place `Key` with the schedules
pub changes_body : (old new : Lease) → KeepsAllButBody old new → ChangesKeyAndBody old new
changes_body old new keeps =
    keeps ∙ ap (λ (l : Lease). holding old (record (bench_of old) { key = (bench_of l).key; schedules = (bench_of l).schedules; body = (bench_of new).body })) (sym keeps)

pub changes_place : (old new : Lease) → ChangesKeyAt Key old new → ChangesKeyAndBody old new
changes_place old new keeps =
    keeps ∙ ap (λ (l : Lease). holding old (record (bench_of old) { key = (bench_of new).key; schedules = (bench_of new).schedules; body = (bench_of l).body })) (sym keeps)

pub body_and_place : (first between last : Lease) → KeepsAllButBody first between → ChangesKeyAt Key between last → ChangesKeyAndBody first last
body_and_place first between last body place =
    changes_more first between last (changes_body first between body) (changes_place between last place)

pub body_stays : (old new : Lease) → ChangesKeyAt Key old new → (bench_of new).body ≡ (bench_of old).body
body_stays old new keeps = ap (λ (l : Lease). (bench_of l).body) keeps
