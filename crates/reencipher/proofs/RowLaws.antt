-- What a run leaves of the cells and the rows of labels that the action doesn't change.
use Rattle.std.proofs.Common.{◌≡◌, ◌≢◌, ◌≤◌, ◌<◌, ◌+◌, ℕ, suc, List, get_or, cond, Option, None, Some, Result, Ok, Err, Bool, true, false, refl, sym, ap, subst, ◌∙◌, inl, inr, ⊎_elim, arith}
use Rattle.std.specs.Prelude.{IsSome, is_some, ◌&&◌, OnOk}
use Rattle.std.proofs.lemmas.Bool.{cases_eq}
use Rattle.device_cells.specs.Cells.{IsReplacing}
use Rattle.device_cells.specs.Medium.{Medium, Told, IsSettled, From, Becomes, EachImage, Keeps}
use Rattle.device_cells.specs.SpareBytes.{Turned}
use Rattle.device_cells.proofs.Media.{told_at, each_weaker, each_still, goes_on, becomes_same, becomes_weaker, becomes_both, becomes_then, from_then}
use Rattle.device_cells.proofs.SpareLemmas.{turned_same}
use Rattle.cca_roles.proofs.DirectoryLaws.{none_some}
use Rattle.cca_vectors.specs.Checks.{first_failing}
use Rattle.key_cells.specs.Bench.{Bench}
use Rattle.key_tokens.specs.Denotes.{denoted}
use Rattle.key_tokens.specs.Fields.{pattern_of_token}
use Rattle.key_tokens.specs.TokenChecks.{token_checks}
use Rattle.key_tokens.specs.declared.key_token.Asked.TheVariants as asked
use Rattle.key_records.specs.Changes.{IsReadOf, IsTokenAt, ReplacesBody, has_key, is_ahead_row}
use Rattle.record_bodies.specs.RecordBody.{IsKeptWith}
use Rattle.record_bodies.specs.Entries.{row_label}
use Rattle.key_records.specs.declared.faults.RecordFault.{RecordFault}
use Rattle.record_bodies.specs.declared.rows.Row.{Row}
use Rattle.master_registers.specs.Loaded.{Loaded}
use Rattle.master_registers.specs.Masters.{Masters}
use Rattle.master_registers.specs.declared.patterns.Pattern.{Pattern}
use Rattle.master_registers.specs.declared.registers.Registers.{Registers}
use Rattle.verb_rules.specs.Keys.{keys_of}
use Rattle.reencipher.specs.Runs.{LeavesCells, IsChangedRow, TurnsCells, changed_rows, changes_age, changes_row, known_age}
use Rattle.reencipher.specs.Tokens.{changes_key, may_change}
use Rattle.reencipher.specs.Turns.{LeavesCell, StaysOrTurns, TurnsCell}
use Rattle.record_bodies.specs.declared.actions.StoreAction.{StoreAction}
use Rattle.record_bodies.specs.declared.actions.StoreAction.TheVariants.{Renew, Ahead, Drop}
use Rattle.record_bodies.proofs.FurtherLaws.{and_false}
use Rattle.reencipher.proofs.TokenLaws.{by_register}
use Rattle.reencipher.proofs.CellLaws.{leaves_none, leaves_next, leaves_weaker, leaves_all, turned_next}

-- ---- the row of a token that was read

-- the row remembers the pattern of the token that its body has, which breaks no rule
record IsKnown (token : List ℕ) (pattern : Option Pattern) : Type 0 where
  pub under : pattern ≡ Some (record { bytes = pattern_of_token token })
  pub sound : first_failing (token_checks asked.Internal token) ≡ None

row_known : (pattern : Option Pattern) (token : List ℕ) → IsKeptWith pattern token → IsKnown token pattern
row_known None token kept = absurd kept
row_known (Some pattern) token kept = record {
  under = ap (λ b. let p : Pattern = record { bytes = b } in Some p) (sym kept.under);
  sound = kept.sound;
}

module _ (a : StoreAction) (held : Registers) where
  pub no_row_stays : (o : Option Row) → row_label o ≡ None → changes_row a held o ≡ false
  no_row_stays None is = refl
  no_row_stays (Some row) is = absurd (none_some row.label (sym is))

  -- a label that the memory knows to be null, and one whose mark forbids the change
  pub null_row_stays : (o : Option Row) → has_key o ≡ false → changes_row a held o ≡ false
  null_row_stays None is = refl
  null_row_stays (Some row) is = ap (λ b. b && may_change a (is_some row.ahead)) (by_pattern row.pattern is)
    where
      of_none : (a : StoreAction) → changes_age a None ≡ false
      of_none Renew = refl
      of_none Ahead = refl
      of_none Drop = refl

      by_pattern : (pattern : Option Pattern) → is_some pattern ≡ false → changes_age a (known_age held pattern) ≡ false
      by_pattern None is = of_none a
      by_pattern (Some pattern) is = let wrong : true ≡ false = is in absurd (cc)

  pub marked_row_stays : (o : Option Row) → may_change a (is_ahead_row o) ≡ false → changes_row a held o ≡ false
  marked_row_stays None is = refl
  marked_row_stays (Some row) is = ap (λ b. changes_age a (known_age held row.pattern) && b) is ∙ and_false (changes_age a (known_age held row.pattern))

  -- the row of a token that was read
  module _ (m : Masters) (bench : Bench) (loaded : Loaded m held bench) (rows : List (Option Row)) (place : ℕ) (token : List ℕ) where
    pub row_changes : (bytes : List ℕ) → IsReadOf (get_or rows place None) bytes true token
        → changes_row a held (get_or rows place None) ≡ (changes_key a (denoted (keys_of m) token) && may_change a (is_ahead_row (get_or rows place None)))
    row_changes bytes read = by_row (get_or rows place None) (read.token refl)
      where
        by_row : (o : Option Row) → IsTokenAt bytes o token → changes_row a held o ≡ (changes_key a (denoted (keys_of m) token) && may_change a (is_ahead_row o))
        by_row None is = absurd is
        by_row (Some row) is =
            let known = row_known row.pattern token is.kept in
            ap (λ p. changes_age a (known_age held p) && may_change a (is_some row.ahead)) known.under
            ∙ ap (λ b. b && may_change a (is_some row.ahead)) (sym (by_register a m held bench token loaded known.sound))

-- ---- one cell that was read at most

on_any : {T E P : Type 0} (r : Result T E) → P → OnOk r P
on_any (Ok x) holds = holds
on_any (Err e) holds = tt

module _ (P : Type 0) (cell : ℕ) where
  leaves_same : (c : List ℕ) → LeavesCell P cell c c
  leaves_same c = record { size = refl; same = λ k untouched. refl }

  module _ (m0 m1 : Medium) (settled : IsSettled m0) (keeps : Keeps m0 m1) where
    leaving_none : EachImage m0 m1 (From (LeavesCell P cell) m0)
    leaving_none = each_weaker m0 m1 m0.images (From (LeavesCell P cell) m0) keeps.moments (λ c image. (c, settled.only c image, leaves_same c))

    pub turns_kept : (result : Result Bool RecordFault) → TurnsCell P cell m0 m1 result
    turns_kept result = record {
      turned = on_any result (becomes_same m0 m1 (StaysOrTurns cell) keeps.moments.size keeps.content (λ c. inl (λ k within. refl)));
      either = becomes_same m0 m1 (LeavesCell P cell) keeps.moments.size keeps.content leaves_same;
      moments = leaving_none;
    }

    -- ---- and then written
    module _ (m2 : Medium) (bytes : List ℕ) (may : Told m0 (λ _. P)) where
      leaves_replacing : (c d : List ℕ) → m0.content ≡ Some c → IsReplacing cell bytes c d → LeavesCell P cell c d
      leaves_replacing c d is by = record { size = by.outside.size; same = λ k untouched. by.untouched k (untouched (told_at m0.content (λ _. P) c is may)) }

      from_read : (d : List ℕ) → From (IsReplacing cell bytes) m1 d → From (LeavesCell P cell) m0 d
      from_read d from = let was = sym keeps.content ∙ from.1 in (from.0, was, leaves_replacing from.0 d was from.2)

      still_read : IsSome m0.content → IsSome m1.content
      still_read some = subst (λ (o : Option (List ℕ)). IsSome o) (sym keeps.content) some

      either_written : Becomes (IsReplacing cell bytes) m1 m2 → Becomes (LeavesCell P cell) m0 m2
      either_written becomes = record { size = becomes.size ∙ keeps.moments.size; told = λ d is. from_read d (becomes.told d is); still = λ some. becomes.still (still_read some) }

      moments_written : EachImage m1 m2 (From (IsReplacing cell bytes) m1) → EachImage m0 m2 (From (LeavesCell P cell) m0)
      moments_written moments =
          goes_on m0 m1 m2 (From (LeavesCell P cell) m0) (From (IsReplacing cell bytes) m1) (From (LeavesCell P cell) m0) leaving_none moments (λ c p. p) from_read

      pub turns_failed : (fault : RecordFault) (failed : Result (Unit {0}) RecordFault) → ReplacesBody cell bytes m1 m2 failed → TurnsCell P cell m0 m2 (Err fault)
      turns_failed fault failed replaces = record { turned = tt; either = either_written replaces.replacing; moments = moments_written replaces.moments }

      pub turns_written : ReplacesBody cell bytes m1 m2 (Ok tt) → TurnsCell P cell m0 m2 (Ok true)
      turns_written replaces = record {
        turned = record {
          size = replaces.replaced.size ∙ keeps.moments.size;
          told = λ d is. let from = replaces.replaced.told d is in (from.0, sym keeps.content ∙ from.1, inr (from.2.selector, from.2.other));
          still = λ some. replaces.replaced.still (still_read some);
        };
        either = either_written replaces.replacing;
        moments = moments_written replaces.moments;
      }

-- ---- a run

module _ (a : StoreAction) (held : Registers) (before : List (Option Row)) where
  abbrev Changed : ℕ → Type 0
  Changed n = IsChangedRow a held before n

  abbrev SoFar : ℕ → List ℕ → List ℕ → Type 0
  SoFar cell old new = LeavesCells Changed cell old new × Turned cell old new

  -- a run has come as far as a cell
  pub record HasTurnedTo (cell changed : ℕ) (now : List (Option Row)) (m0 m1 : Medium) : Type 0 where
    pub cells : Becomes (SoFar cell) m0 m1
    pub moments : EachImage m0 m1 (From (LeavesCells Changed 1024) m0)
    pub above : (n : ℕ) → cell ≤ n → get_or now n None ≡ get_or before n None
    pub rows : (n : ℕ) → (Changed n → ⊥) → get_or now n None ≡ get_or before n None
    pub count : changed ≡ changed_rows a held before cell

  pub turned_start : (m : Medium) → IsSettled m → HasTurnedTo 0 0 before m m
  turned_start m settled = record {
    cells = becomes_same m m (SoFar 0) refl refl (λ c. (leaves_none Changed c, turned_same 0 c));
    moments = each_weaker m m m.images (From (LeavesCells Changed 1024) m) (each_still m)
        (λ c image. (c, settled.only c image, leaves_all Changed 0 c c (omega arith) (leaves_none Changed c)));
    above = λ n at. refl;
    rows = λ n none. refl;
    count = refl;
  }

  module _ (cell changed : ℕ) (now next : List (Option Row)) (m0 m1 m2 : Medium) (within : cell < 1024) (so_far : HasTurnedTo cell changed now m0 m1)
      (others : (n : ℕ) → n ≢ cell → get_or next n None ≡ get_or now n None)
      (row : (IsChangedRow a held now cell → ⊥) → get_or next cell None ≡ get_or now cell None) where
    abbrev Now : Type 0
    Now = IsChangedRow a held now cell

    was_changed : Now → Changed cell
    was_changed is = ap (changes_row a held) (sym (so_far.above cell (omega arith))) ∙ is

    leaf : (c d : List ℕ) → LeavesCell Now cell c d → LeavesCell (Changed cell) cell c d
    leaf c d leaves = leaves_weaker Now (Changed cell) cell c d was_changed leaves

    step_from : (b c d : List ℕ) → SoFar cell b c → LeavesCell Now cell c d → LeavesCells Changed 1024 b d
    step_from b c d first leaves = leaves_all Changed (cell + 1) b d (omega (arith, within)) (leaves_next Changed cell b c d first.0 (leaf c d leaves))

    moments_next : (r : Result Bool RecordFault) → TurnsCell Now cell m1 m2 r → EachImage m0 m2 (From (LeavesCells Changed 1024) m0)
    moments_next r turn =
        goes_on m0 m1 m2 (From (LeavesCells Changed 1024) m0) (From (LeavesCell Now cell) m1) (From (LeavesCells Changed 1024) m0) so_far.moments turn.moments (λ c p. p)
        (from_then m0 m1 (SoFar cell) (LeavesCell Now cell) (LeavesCells Changed 1024) so_far.cells step_from)

    row_now : ((n : ℕ) → (Changed n → ⊥) → get_or now n None ≡ get_or before n None) → ((Now → ⊥) → get_or next cell None ≡ get_or now cell None)
        → (n : ℕ) → (Changed n → ⊥) → get_or next n None ≡ get_or before n None
    row_now rows here n none = ⊎_elim
        (λ (is : n ≡ cell). ap (λ k. get_or next k None) is ∙ here (λ is_changed. none (subst Changed (sym is) (was_changed is_changed))) ∙ ap (λ k. get_or now k None) (sym is) ∙ rows n none)
        (λ (other : n ≢ cell). others n other ∙ rows n none)
        (cases_eq n cell)

    rows_next : (n : ℕ) → (Changed n → ⊥) → get_or next n None ≡ get_or before n None
    rows_next = row_now so_far.rows row

    counted : (done : Bool) → changed ≡ changed_rows a held before cell → done ≡ changes_row a held (get_or now cell None) → changed + cond done 1 0 ≡ changed_rows a held before (cell + 1)
    counted done so_many is =
        let more : cell + 1 ≡ suc cell = omega arith in
        ap (λ n. n + cond done 1 0) so_many
        ∙ ap (λ b. changed_rows a held before cell + cond b 1 0) (is ∙ ap (changes_row a held) (so_far.above cell (omega arith)))
        ∙ ap (changed_rows a held before) (sym more)

    pub turned_on : (done : Bool) → TurnsCell Now cell m1 m2 (Ok done) → done ≡ changes_row a held (get_or now cell None) → HasTurnedTo (cell + 1) (changed + cond done 1 0) next m0 m2
    turned_on done turn count = record {
      cells = becomes_then m0 m1 m2 (SoFar cell) (λ c d. LeavesCell Now cell c d × StaysOrTurns cell c d) (SoFar (cell + 1)) so_far.cells
          (becomes_both m1 m2 (LeavesCell Now cell) (StaysOrTurns cell) turn.either turn.turned)
          (λ b c d first both. (leaves_next Changed cell b c d first.0 (leaf c d both.0), turned_next Changed cell b c d first.0 (leaf c d both.0) first.1 both.1));
      moments = moments_next (Ok done) turn;
      above = λ n at. others n (λ is. omega (arith, is, at)) ∙ so_far.above n (omega (arith, at));
      rows = rows_next;
      count = counted done so_far.count count;
    }

    pub turns_ended : (fault : RecordFault) → TurnsCell Now cell m1 m2 (Err fault) → TurnsCells a held before next m0 m2 (Err fault)
    turns_ended fault turn = record {
      turned = tt;
      either = becomes_then m0 m1 m2 (SoFar cell) (LeavesCell Now cell) (LeavesCells Changed 1024) so_far.cells turn.either step_from;
      moments = moments_next (Err fault) turn;
      rows = rows_next;
      count = tt;
    }

  pub turns_whole : (cell count : ℕ) (now : List (Option Row)) (m0 m1 : Medium) → cell ≡ 1024 → HasTurnedTo cell count now m0 m1 → TurnsCells a held before now m0 m1 (Ok count)
  turns_whole cell count now m0 m1 all so_far = record {
    turned = becomes_weaker m0 m1 (SoFar cell) (Turned 1024) so_far.cells (λ b c both. subst (λ n. Turned n b c) all both.1);
    either = becomes_weaker m0 m1 (SoFar cell) (LeavesCells Changed 1024) so_far.cells (λ b c both. leaves_all Changed cell b c (omega (arith, all)) both.0);
    moments = so_far.moments;
    rows = so_far.rows;
    count = so_far.count ∙ ap (changed_rows a held before) all;
  }
