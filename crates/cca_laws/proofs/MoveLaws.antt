-- What the requests of a move leave of the other module's state, all of them and again.
use Rattle.std.proofs.Common.{◌≡◌, ◌≢◌, ◌<◌, ℕ, Bool, true, false, List, [], ◌∷◌, ◌++◌, length, get_or, map, take, Option, None, Some, refl, sym, ap, subst, ◌∙◌, codes, arith}
use Rattle.std.specs.Prelude.{Contains, is_none, is_some, if◌then◌else◌}
use Rattle.std.specs.List.{AllByRecursion, flat_map, range_with_len}
use Rattle.std.specs.Option.{option_map}
use Rattle.std.specs.Ordering.{is_lt}
use Rattle.std.specs.Str.{bytes_eq}
use Rattle.std.proofs.lemmas.Cmp.{nat_list_cmp_total, tied_itself}
use Rattle.std.proofs.lemmas.List.{get_or-map, length-map, map-append, take-map}
use Rattle.std.proofs.lemmas.List.FromFn.{get_or-range_with_len, length-range_with_len}
use Rattle.std.proofs.lemmas.Slice.Eq.{bytes_eq-Decides}
use Rattle.cca_roles.specs.Names.{IsLabel, is_label}
use Rattle.cca_roles.specs.Directory.{AreApart}
use Rattle.cca_roles.proofs.DirectoryLaws.{held_at, none_some}
use Rattle.cca_vectors.specs.Checks.{first_failing}
use Rattle.record_bodies.specs.Directory.{cell_of, held_count, label_at}
use Rattle.record_bodies.specs.Entries.{directory}
use Rattle.record_bodies.specs.Rank.{IsNth, is_smaller, smaller_count}
use Rattle.key_tokens.specs.Denotes.{Denoted}
use Rattle.key_transport.specs.Tokens.{as_current}
use Rattle.line_service.specs.Machine.{outcome_of_lines}
use Rattle.line_service.specs.Replies.{two_digits}
use Rattle.store_move.specs.Exports.{export_checks}
use Rattle.cca_machine.specs.Keys.{cell_with, key_of_label, what_at}
use Rattle.cca_machine.specs.Lines.{line_outcome}
use Rattle.cca_machine.specs.Listing.{ascending, nth_label}
use Rattle.cca_machine.specs.Session.{line_step, state_after}
use Rattle.cca_machine.specs.State.{State}
use Rattle.cca_machine.proofs.RankLemmas.{count_lt, nth_is, within_of}
use Rattle.store_unload.specs.Moves.{clear_of, create_line, import_line, labels_of, moving_requests, reason, requests_by, requests_for, token_of_label}
use Rattle.command_words.specs.declared.moves.Move.{Move}
use Rattle.cca_laws.specs.EachLabel.{SameEntry}
use Rattle.cca_laws.specs.Moving.{IsMovedLabel, IsPermittedMove, IsReceived, Receives, run_again}
use Rattle.cca_laws.proofs.MoveLists.{Finds, finds_key}
use Rattle.cca_laws.proofs.MovePlaces.{apart_steps, distinct, no_other, take_cells}
use Rattle.cca_laws.proofs.MoveRoom.{HasRoom}
use Rattle.cca_laws.proofs.MoveRuns.{Step, Creates, Imports, IsSettled, Settle, again, all_again, all_move, carried, carried_all, import_among, label_of, reruns_are_one, settled_then, step_elsewhere, steps_by, steps_elsewhere, steps_for, steps_stay, they_settle}
use Rattle.cca_laws.proofs.MoveSteps.{IsReady, create_step, import_step}
use Rattle.cca_laws.proofs.MoveTokens.{label_well}

-- ---- labels in ascending order

-- a label that is held is listed
pub is_listed : (d : List (Option (List ℕ))) (n : ℕ) (label : List ℕ) → label_at d n ≡ Some label → Contains (ascending d) label
is_listed d n label held =
    let index : ℕ = smaller_count label d in
    let low : index < held_count d =
    count_lt (is_smaller label) (λ (l : Option (List ℕ)). is_some l) smaller_held d n None (within_of d n label held)
    (ap (is_smaller label) held ∙ ap is_lt (tied_itself nat_list_cmp_total label)) (ap (λ (l : Option (List ℕ)). is_some l) held) in
    let numbers : List ℕ = range_with_len 0 (held_count d) in
    let inside : index < length numbers = omega (arith, low, length-range_with_len 0 (held_count d)) in
    let at : get_or numbers index 0 ≡ index = get_or-range_with_len 0 (held_count d) index 0 low ∙ omega arith in
    let nth : IsNth index d label = record { place = n; held = held; smaller = refl } in
    (index, omega (arith, inside, length-map numbers (nth_label d)), get_or-map (nth_label d) numbers index 0 label inside ∙ (ap (nth_label d) at ∙ nth_is index d label nth))
  where
    smaller_held : (l : Option (List ℕ)) → is_smaller label l ≡ true → is_some l ≡ true
    smaller_held None is = cc is
    smaller_held (Some other) is = refl

-- ---- the steps of a move, as requests

module _ (s : State) (w : Move) where
  -- nothing keeps the label back
  abbrev pub moves : List ℕ → Bool
  moves label = is_none (reason s w label)

  -- the key that it gets
  abbrev pub new_key : List ℕ → Denoted
  new_key label = as_current (clear_of s label)

  abbrev pub line_of : Step → List ℕ
  line_of (Creates label) = create_line w label
  line_of (Imports label) = import_line w (token_of_label s w label) label

  abbrev pub all_steps : List Step
  all_steps = flat_map (steps_for moves) (labels_of s)

  are_steps : (labels : List (List ℕ)) → flat_map (requests_for s w) labels ≡ map line_of (flat_map (steps_for moves) labels)
  are_steps [] = refl
  are_steps (label ∷ labels) = by_reason (reason s w label) (are_steps labels)
    where
      by_reason : (o : Option (List ℕ)) → flat_map (requests_for s w) labels ≡ map line_of (flat_map (steps_for moves) labels)
          → requests_by o s w label ++ flat_map (requests_for s w) labels ≡ map line_of (steps_by moves (is_none o) label ++ flat_map (steps_for moves) labels)
      by_reason None later = ap (λ ls. create_line w label ∷ import_line w (token_of_label s w label) label ∷ ls) later
      by_reason (Some why) later = later

  firsts_are_steps : (counts : List ℕ) (xs : List Step) → flat_map (λ count. take count (map line_of xs)) counts ≡ map line_of (flat_map (λ count. take count xs) counts)
  firsts_are_steps [] xs = refl
  firsts_are_steps (c ∷ cs) xs =
      ap (λ ls. ls ++ flat_map (λ count. take count (map line_of xs)) cs) (take-map line_of c xs)
      ∙ (ap (λ ls. map line_of (take c xs) ++ ls) (firsts_are_steps cs xs) ∙ sym (map-append line_of (take c xs) (flat_map (λ count. take count xs) cs)))

  again_are_steps : (counts : List ℕ) → run_again counts (moving_requests s w) ≡ map line_of (again counts all_steps)
  again_are_steps counts =
      ap (run_again counts) (are_steps (labels_of s))
      ∙ (ap (λ ls. ls ++ map line_of all_steps) (firsts_are_steps counts all_steps)
      ∙ sym (map-append line_of (flat_map (λ count. take count all_steps) counts) all_steps))

  -- ---- a label that moves

  no_reason : (label : List ℕ) → moves label ≡ true → reason s w label ≡ None
  no_reason label moved = by_reason (reason s w label) moved
    where
      by_reason : (o : Option (List ℕ)) → is_none o ≡ true → o ≡ None
      by_reason None is = refl
      by_reason (Some why) is = cc is

  -- isn't the transport key's there
  apart_there : (label : List ℕ) → reason s w label ≡ None → label ≢ w.transport_there
  apart_there label free same =
      none_some (codes "target")
      (sym free ∙ ap (λ t. if t then Some (codes "target") else option_map two_digits (first_failing (export_checks (key_of_label s label))))
      ((bytes_eq-Decides label w.transport_there).1 same))

  exports : (label : List ℕ) → reason s w label ≡ None → first_failing (export_checks (key_of_label s label)) ≡ None
  exports label free = by_test (bytes_eq label w.transport_there) (first_failing (export_checks (key_of_label s label))) free
    where
      by_test : (t : Bool) (o : Option ℕ) → (if t then Some (codes "target") else option_map two_digits o) ≡ None → o ≡ None
      by_test true o is = absurd (none_some (codes "target") (sym is))
      by_test false None is = refl
      by_test false (Some rule) is = absurd (none_some (two_digits rule) (sym is))

  -- is held, with a key
  is_held : (label : List ℕ) → reason s w label ≡ None → (cell : ℕ) × (cell_with s label ≡ Some cell)
  is_held label free = by_cell (cell_with s label) (exports label free)
    where
      by_cell : (o : Option ℕ) → first_failing (export_checks (what_at s.labels o)) ≡ None → (cell : ℕ) × (o ≡ Some cell)
      by_cell None is = absurd (none_some 8 (sym is))
      by_cell (Some n) is = (n, refl)

  pub moved_label : (label : List ℕ) → moves label ≡ true → IsMovedLabel s w label
  moved_label label moved =
      let free = no_reason label moved in
      let held = is_held label free in
      record { cell = held.0; held = held.1; free = free }

  pub label_moves : (label : List ℕ) → IsMovedLabel s w label → moves label ≡ true
  label_moves label moved = ap (λ (o : Option (List ℕ)). is_none o) moved.free

  named_there : (label : List ℕ) (cell : ℕ) → cell_with s label ≡ Some cell → label_at (directory s.labels) cell ≡ Some label
  unfolding cell_of
  named_there label cell held = held_at label (directory s.labels) cell held

  listed : (label : List ℕ) → IsMovedLabel s w label → Contains (labels_of s) label
  listed label moved = is_listed (directory s.labels) moved.cell label (named_there label moved.cell moved.held)

  module _ (permitted : IsPermittedMove s w) where
    -- and is a label
    well_formed : (label : List ℕ) → IsMovedLabel s w label → IsLabel label
    well_formed label moved = label_well s permitted.store_here label moved.cell permitted.stands.store moved.held

    module _ (t : State) (receives : Receives s w t) where
      -- ---- one request

      leaves : (u : State) (random : List ℕ) (x : Step) → IsReady w t u → moves (label_of x) ≡ true
          → ((line_outcome u random (line_of x)).state ≡ record u { labels = carried new_key x u.labels })
          × ((line_outcome u random (line_of x)).random ≡ random)
      leaves u random (Creates label) ready moved =
          create_step s w t u random label permitted receives ready (well_formed label (moved_label label moved))
      leaves u random (Imports label) ready moved = import_step s w t u random label permitted receives ready (moved_label label moved)

      still_ready : (u : State) (x : Step) → IsReady w t u → moves (label_of x) ≡ true → IsReady w t (record u { labels = carried new_key x u.labels })
      still_ready u x ready moved =
          let apart : label_of x ≢ w.transport_there = apart_there (label_of x) (no_reason (label_of x) moved) in
          record {
            roles = ready.roles;
            registers = ready.registers;
            transport = finds_key w.transport_there u.labels _ (step_elsewhere new_key w.transport_there x u.labels apart) ∙ ready.transport;
          }

      -- ---- all requests

      state_is : (xs : List Step) (u : State) (random : List ℕ) → IsReady w t u → AllByRecursion (λ x. moves (label_of x) ≡ true) xs
          → state_after u random (map line_of xs) ≡ record u { labels = carried_all new_key xs u.labels }
      state_is [] u random ready moved = refl
      state_is (x ∷ xs) u random ready moved =
          let one = leaves u random x ready moved.0 in
          let next : State = record u { labels = carried new_key x u.labels } in
          ap (λ (v : State). (outcome_of_lines line_step v (line_outcome u random (line_of x)).random (map line_of xs)).state) one.0
          ∙ (ap (λ (r : List ℕ). (outcome_of_lines line_step next r (map line_of xs)).state) one.1
          ∙ state_is xs next random (still_ready u x ready moved.0) moved.1)

      abbrev after : State
      after = record t { labels = carried_all new_key all_steps t.labels }

      ready : IsReady w t t
      ready = record { roles = refl; registers = refl; transport = refl }

      each_moves : AllByRecursion (λ x. moves (label_of x) ≡ true) all_steps
      each_moves = all_move moves (labels_of s)

      pub after_all : (random : List ℕ) → state_after t random (moving_requests s w) ≡ after
      after_all random = ap (state_after t random) (are_steps (labels_of s)) ∙ state_is all_steps t random ready each_moves

      has_room : HasRoom moves (labels_of s) t.labels
      has_room = record { size = receives.stands.store.size; room = receives.room }

      settle : Settle new_key all_steps t.labels
      settle = they_settle new_key moves (labels_of s) (labels_of s) (λ label among. among) t.labels has_room

      pub after_again : (random counts : List ℕ) → state_after t random (run_again counts (moving_requests s w)) ≡ state_after t random (moving_requests s w)
      after_again random counts =
          ap (state_after t random) (again_are_steps counts)
          ∙ (state_is (again counts all_steps) t random ready (all_again (λ x. moves (label_of x) ≡ true) counts all_steps each_moves)
          ∙ (ap (λ es. record t { labels = es }) (reruns_are_one new_key all_steps t.labels settle counts) ∙ sym (after_all random)))

      -- ---- what the labels hold

      other_label : (label : List ℕ) → (IsMovedLabel s w label → ⊥) → (xs : List Step) → AllByRecursion (λ x. moves (label_of x) ≡ true) xs
          → AllByRecursion (λ x. label_of x ≢ label) xs
      other_label label stays [] moved = tt
      other_label label stays (x ∷ xs) moved =
          (λ same. stays (moved_label label (subst (λ l. moves l ≡ true) same moved.0)), other_label label stays xs moved.1)

      unmoved : (label : List ℕ) → (IsMovedLabel s w label → ⊥) → SameEntry t after label
      unmoved label stays =
          let finds : Finds label t.labels after.labels = steps_elsewhere new_key label all_steps t.labels (other_label label stays all_steps each_moves) in
          record { cell = finds.cell; entry = finds.same }

      no_label : moves [] ≡ false
      unfolding is_label
      no_label = by_test (moves []) refl
        where
          by_test : (b : Bool) → moves [] ≡ b → b ≡ false
          by_test true moved = let well : IsLabel [] = well_formed [] (moved_label [] moved) in absurd (cc well)
          by_test false stays = refl

      apart_after : AreApart (directory after.labels)
      apart_after = apart_steps new_key all_steps t.labels receives.stands.store.apart

      received_after : IsReceived s w t after
      received_after = record {
        moved = λ label is.
            import_among moves (IsSettled new_key after.labels) (labels_of s) label (label_moves label is) (listed label is)
            (settled_then new_key all_steps t.labels settle);
        others = unmoved;
        cells = λ label cell held. steps_stay new_key label cell all_steps t.labels held;
        new_cells =
            take_cells moves new_key (labels_of s) (labels_of s) (λ label among. among) (distinct (directory s.labels) moves no_label)
            t.labels has_room receives.stands.store.apart;
        empty = λ cell never. no_other after.labels apart_after cell never;
        roles = refl;
        registers = refl;
      }

      pub received_all : (random : List ℕ) → IsReceived s w t (state_after t random (moving_requests s w))
      received_all random = subst (IsReceived s w t) (sym (after_all random)) received_after
