use Rattle.std.proofs.Common.{ℕ, ◌+◌, ◌*◌, List, [], ◌∷◌, get_or, refl, ap, ◌∙◌, arith}
use Rattle.des_blocks.specs.Schedules.{group_bits}
use Rattle.des_core.specs.Lanes.{joined_at}
use Rattle.des_core.proofs.CipherLemmas.{below-each, group-fits, group-within}
use Rattle.des_core.proofs.LaneHalfLemmas.{Joins, eight-in-row, next-lanes, next-vectors}
use Rattle.des_core.proofs.lanes.rounds.next_half.Goals as goal

pub entry_1-requires : goal.entry_1-requires
entry_1-requires c = c.requires.right

pub overflow_add-first : goal.overflow_add-first
overflow_add-first c = record { fits = group-fits c.args.at 1 c.requires.at (omega arith) }

pub bounds-groups-first-2 : goal.bounds-groups-first-2
bounds-groups-first-2 c = group-within c.args.at 1 c.requires.at (omega arith)

pub entry_2-requires : goal.entry_2-requires
entry_2-requires c = c.requires.right

pub overflow_add-first-2 : goal.overflow_add-first-2
overflow_add-first-2 c = record { fits = group-fits c.args.at 2 c.requires.at (omega arith) }

pub bounds-groups-first-3 : goal.bounds-groups-first-3
bounds-groups-first-3 c = group-within c.args.at 2 c.requires.at (omega arith)

pub entry_3-requires : goal.entry_3-requires
entry_3-requires c = c.requires.right

pub overflow_add-first-3 : goal.overflow_add-first-3
overflow_add-first-3 c = record { fits = group-fits c.args.at 3 c.requires.at (omega arith) }

pub bounds-groups-first-4 : goal.bounds-groups-first-4
bounds-groups-first-4 c = group-within c.args.at 3 c.requires.at (omega arith)

pub entry_4-requires : goal.entry_4-requires
entry_4-requires c = c.requires.right

pub overflow_add-first-4 : goal.overflow_add-first-4
overflow_add-first-4 c = record { fits = group-fits c.args.at 4 c.requires.at (omega arith) }

pub bounds-groups-first-5 : goal.bounds-groups-first-5
bounds-groups-first-5 c = group-within c.args.at 4 c.requires.at (omega arith)

pub entry_5-requires : goal.entry_5-requires
entry_5-requires c = c.requires.right

pub overflow_add-first-5 : goal.overflow_add-first-5
overflow_add-first-5 c = record { fits = group-fits c.args.at 5 c.requires.at (omega arith) }

pub bounds-groups-first-6 : goal.bounds-groups-first-6
bounds-groups-first-6 c = group-within c.args.at 5 c.requires.at (omega arith)

pub entry_6-requires : goal.entry_6-requires
entry_6-requires c = c.requires.right

pub overflow_add-first-6 : goal.overflow_add-first-6
overflow_add-first-6 c = record { fits = group-fits c.args.at 6 c.requires.at (omega arith) }

pub bounds-groups-first-7 : goal.bounds-groups-first-7
bounds-groups-first-7 c = group-within c.args.at 6 c.requires.at (omega arith)

pub entry_7-requires : goal.entry_7-requires
entry_7-requires c = c.requires.right

pub overflow_add-first-7 : goal.overflow_add-first-7
overflow_add-first-7 c = record { fits = group-fits c.args.at 7 c.requires.at (omega arith) }

pub bounds-groups-first-8 : goal.bounds-groups-first-8
bounds-groups-first-8 c = group-within c.args.at 7 c.requires.at (omega arith)

pub entry_8-requires : goal.entry_8-requires
entry_8-requires c = c.requires.right

pub join_four-requires : goal.join_four-requires
join_four-requires c = below-each 32 (8 ∷ 16 ∷ 22 ∷ 30 ∷ []) refl

pub join_four-requires-2 : goal.join_four-requires-2
join_four-requires-2 c = below-each 32 (12 ∷ 27 ∷ 1 ∷ 17 ∷ []) refl

pub join_four-requires-3 : goal.join_four-requires-3
join_four-requires-3 c = below-each 32 (23 ∷ 15 ∷ 29 ∷ 5 ∷ []) refl

pub join_four-requires-4 : goal.join_four-requires-4
join_four-requires-4 c = below-each 32 (25 ∷ 19 ∷ 9 ∷ 0 ∷ []) refl

pub join_four-requires-5 : goal.join_four-requires-5
join_four-requires-5 c = below-each 32 (7 ∷ 13 ∷ 24 ∷ 2 ∷ []) refl

pub join_four-requires-6 : goal.join_four-requires-6
join_four-requires-6 c = below-each 32 (3 ∷ 28 ∷ 10 ∷ 18 ∷ []) refl

pub join_four-requires-7 : goal.join_four-requires-7
join_four-requires-7 c = below-each 32 (31 ∷ 11 ∷ 21 ∷ 6 ∷ []) refl

pub join_four-requires-8 : goal.join_four-requires-8
join_four-requires-8 c = below-each 32 (4 ∷ 26 ∷ 14 ∷ 20 ∷ []) refl

pub returns-clause-vectors : goal.returns-clause-vectors
returns-clause-vectors c =
    let y1 : List (List ℕ) = c.entry_1.result.0 ∷ c.entry_1.result.1 ∷ c.entry_1.result.2 ∷ c.entry_1.result.3 ∷ [] in
    let y2 : List (List ℕ) = c.entry_2.result.0 ∷ c.entry_2.result.1 ∷ c.entry_2.result.2 ∷ c.entry_2.result.3 ∷ [] in
    let y3 : List (List ℕ) = c.entry_3.result.0 ∷ c.entry_3.result.1 ∷ c.entry_3.result.2 ∷ c.entry_3.result.3 ∷ [] in
    let y4 : List (List ℕ) = c.entry_4.result.0 ∷ c.entry_4.result.1 ∷ c.entry_4.result.2 ∷ c.entry_4.result.3 ∷ [] in
    let y5 : List (List ℕ) = c.entry_5.result.0 ∷ c.entry_5.result.1 ∷ c.entry_5.result.2 ∷ c.entry_5.result.3 ∷ [] in
    let y6 : List (List ℕ) = c.entry_6.result.0 ∷ c.entry_6.result.1 ∷ c.entry_6.result.2 ∷ c.entry_6.result.3 ∷ [] in
    let y7 : List (List ℕ) = c.entry_7.result.0 ∷ c.entry_7.result.1 ∷ c.entry_7.result.2 ∷ c.entry_7.result.3 ∷ [] in
    let y8 : List (List ℕ) = c.entry_8.result.0 ∷ c.entry_8.result.1 ∷ c.entry_8.result.2 ∷ c.entry_8.result.3 ∷ [] in
    let joins : Joins c.args.left.now c.join_four-8.new.left y1 y2 y3 y4 y5 y6 y7 y8 = record {
      size = c.told-left;
      vectors = c.requires.left;
      joins = c.join_four-8.ensures ∙ ap (joined_at (4 ∷ 26 ∷ 14 ∷ 20 ∷ []) y8) (c.join_four-7.ensures ∙ ap (joined_at (31 ∷ 11 ∷ 21 ∷ 6 ∷ []) y7) (c.join_four-6.ensures ∙ ap (joined_at (3 ∷ 28 ∷ 10 ∷ 18 ∷ []) y6) (c.join_four-5.ensures ∙ ap (joined_at (7 ∷ 13 ∷ 24 ∷ 2 ∷ []) y5) (c.join_four-4.ensures ∙ ap (joined_at (25 ∷ 19 ∷ 9 ∷ 0 ∷ []) y4) (c.join_four-3.ensures ∙ ap (joined_at (23 ∷ 15 ∷ 29 ∷ 5 ∷ []) y3) (c.join_four-2.ensures ∙ ap (joined_at (12 ∷ 27 ∷ 1 ∷ 17 ∷ []) y2) (c.join_four.ensures)))))));
      first = record { size = refl; vectors = c.entry_1.ensures.vectors };
      second = record { size = refl; vectors = c.entry_2.ensures.vectors };
      third = record { size = refl; vectors = c.entry_3.ensures.vectors };
      fourth = record { size = refl; vectors = c.entry_4.ensures.vectors };
      fifth = record { size = refl; vectors = c.entry_5.ensures.vectors };
      sixth = record { size = refl; vectors = c.entry_6.ensures.vectors };
      seventh = record { size = refl; vectors = c.entry_7.ensures.vectors };
      eighth = record { size = refl; vectors = c.entry_8.ensures.vectors };
    } in
    next-vectors c.args.left.now c.join_four-8.new.left y1 y2 y3 y4 y5 y6 y7 y8 joins

pub returns-clause-lanes : goal.returns-clause-lanes
returns-clause-lanes c e i h k =
    let groups = c.args.groups.now in
    let at = 8 * c.args.at in
    let y1 : List (List ℕ) = c.entry_1.result.0 ∷ c.entry_1.result.1 ∷ c.entry_1.result.2 ∷ c.entry_1.result.3 ∷ [] in
    let y2 : List (List ℕ) = c.entry_2.result.0 ∷ c.entry_2.result.1 ∷ c.entry_2.result.2 ∷ c.entry_2.result.3 ∷ [] in
    let y3 : List (List ℕ) = c.entry_3.result.0 ∷ c.entry_3.result.1 ∷ c.entry_3.result.2 ∷ c.entry_3.result.3 ∷ [] in
    let y4 : List (List ℕ) = c.entry_4.result.0 ∷ c.entry_4.result.1 ∷ c.entry_4.result.2 ∷ c.entry_4.result.3 ∷ [] in
    let y5 : List (List ℕ) = c.entry_5.result.0 ∷ c.entry_5.result.1 ∷ c.entry_5.result.2 ∷ c.entry_5.result.3 ∷ [] in
    let y6 : List (List ℕ) = c.entry_6.result.0 ∷ c.entry_6.result.1 ∷ c.entry_6.result.2 ∷ c.entry_6.result.3 ∷ [] in
    let y7 : List (List ℕ) = c.entry_7.result.0 ∷ c.entry_7.result.1 ∷ c.entry_7.result.2 ∷ c.entry_7.result.3 ∷ [] in
    let y8 : List (List ℕ) = c.entry_8.result.0 ∷ c.entry_8.result.1 ∷ c.entry_8.result.2 ∷ c.entry_8.result.3 ∷ [] in
    let joins : Joins c.args.left.now c.join_four-8.new.left y1 y2 y3 y4 y5 y6 y7 y8 = record {
      size = c.told-left;
      vectors = c.requires.left;
      joins = c.join_four-8.ensures ∙ ap (joined_at (4 ∷ 26 ∷ 14 ∷ 20 ∷ []) y8) (c.join_four-7.ensures ∙ ap (joined_at (31 ∷ 11 ∷ 21 ∷ 6 ∷ []) y7) (c.join_four-6.ensures ∙ ap (joined_at (3 ∷ 28 ∷ 10 ∷ 18 ∷ []) y6) (c.join_four-5.ensures ∙ ap (joined_at (7 ∷ 13 ∷ 24 ∷ 2 ∷ []) y5) (c.join_four-4.ensures ∙ ap (joined_at (25 ∷ 19 ∷ 9 ∷ 0 ∷ []) y4) (c.join_four-3.ensures ∙ ap (joined_at (23 ∷ 15 ∷ 29 ∷ 5 ∷ []) y3) (c.join_four-2.ensures ∙ ap (joined_at (12 ∷ 27 ∷ 1 ∷ 17 ∷ []) y2) (c.join_four.ensures)))))));
      first = record { size = refl; vectors = c.entry_1.ensures.vectors };
      second = record { size = refl; vectors = c.entry_2.ensures.vectors };
      third = record { size = refl; vectors = c.entry_3.ensures.vectors };
      fourth = record { size = refl; vectors = c.entry_4.ensures.vectors };
      fifth = record { size = refl; vectors = c.entry_5.ensures.vectors };
      sixth = record { size = refl; vectors = c.entry_6.ensures.vectors };
      seventh = record { size = refl; vectors = c.entry_7.ensures.vectors };
      eighth = record { size = refl; vectors = c.entry_8.ensures.vectors };
    } in
    next-lanes e i c.args.left.now c.args.right.now c.join_four-8.new.left _ (get_or groups at 0) (get_or groups (at + 1) 0) (get_or groups (at + 2) 0) (get_or groups (at + 3) 0) (get_or groups (at + 4) 0) (get_or groups (at + 5) 0) (get_or groups (at + 6) 0) (get_or groups (at + 7) 0)
    y1 y2 y3 y4 y5 y6 y7 y8 h joins (ap group_bits (eight-in-row at groups (omega (arith, c.told-groups, c.requires.at))))
    (record {
      first = c.entry_1.ensures.lanes e i h k;
      second = c.entry_2.ensures.lanes e i h k;
      third = c.entry_3.ensures.lanes e i h k;
      fourth = c.entry_4.ensures.lanes e i h k;
      fifth = c.entry_5.ensures.lanes e i h k;
      sixth = c.entry_6.ensures.lanes e i h k;
      seventh = c.entry_7.ensures.lanes e i h k;
      eighth = c.entry_8.ensures.lanes e i h k;
    })
