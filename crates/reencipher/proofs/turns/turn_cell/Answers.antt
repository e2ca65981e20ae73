use Rattle.std.proofs.Common.{◌≡◌, ◌<◌, ℕ, List, Option, None, Some, Ok, Err, Bool, true, false, get_or, refl, sym, ap, subst, ◌∙◌, arith}
use Rattle.std.specs.Prelude.{◌&&◌}
use Rattle.key_cells.specs.Lease.{bench_of}
use Rattle.device_cells.specs.Medium.{Medium, Told}
use Rattle.device_cells.proofs.Media.{keeps_still, settled_kept, told_joined, told_map, told_still}
use Rattle.key_tokens.specs.Denotes.{MasterKeys, denoted}
use Rattle.key_records.specs.Changes.{IsReadOf, ReadsToken, is_ahead_row}
use Rattle.record_bodies.specs.Directory.{label_at}
use Rattle.record_bodies.specs.Entries.{Entry, label_or, row_directory}
use Rattle.record_bodies.specs.declared.rows.Row.{Row}
use Rattle.record_bodies.specs.StoreStands.{HoldsRows, KeepsLabels, entry_at}
use Rattle.record_bodies.proofs.OpeningLaws.{label_of_entry}
use Rattle.record_bodies.proofs.RowLaws.{label_of_row}
use Rattle.key_records.proofs.StoreLaws.{same_directory, told_all}
use Rattle.master_registers.specs.Loaded.{Loaded, masters_in}
use Rattle.master_registers.specs.Masters.{Masters}
use Rattle.master_registers.specs.declared.registers.Registers.{Registers}
use Rattle.master_registers.proofs.LoadedLaws.{loaded_one}
use Rattle.verb_rules.specs.Keys.{keys_of}
use Rattle.record_bodies.specs.Further.{is_changed}
use Rattle.reencipher.specs.Runs.{IsChangedRow, IsTurnOf, changes_row}
use Rattle.reencipher.specs.Tokens.{CanBeWritten, body_of, row_of, changes_key, may_change, put_in}
use Rattle.reencipher.specs.Turns.{ChangesCell, StaysAsRead, TurnsAsRead, TurnsCell}
use Rattle.record_bodies.specs.declared.actions.StoreAction.{StoreAction}
use Rattle.reencipher.proofs.RowLaws.{marked_row_stays, no_row_stays, null_row_stays, row_changes, turns_kept, turns_failed, turns_written}
use Rattle.reencipher.proofs.LeftLaws.{left_untouched, left_read, left_unread, left_put, left_unput}
use Rattle.reencipher.proofs.RunLaws.{body_and_place, body_stays, changes_body}
use Rattle.reencipher.proofs.TokenLaws.{loaded_after}
use Rattle.reencipher.proofs.TurnLaws.{IsMade, IsTurn, and_true, reads_what, reads_null, null_changes, no_label, may_not, does_not, coming_body, ready_body, is_turn, made_is, can_write, loaded_body, changes_none, changes_unread, changes_failed, changes_written, row_put}
use Rattle.std.proofs.lemmas.List.{get_or-set_other}
use Rattle.reencipher.proofs.turns.turn_cell.Goals as goal
use Rattle.reencipher.proofs.turns.turn_cell.Goals.{After-made_tokens, In-Some-made_tokens}
use Rattle.key_cells.proofs.AnswerLemmas.{no_err, not_true}
use Rattle.record_bodies.specs.RecordBody.{ReadsRow}
use Rattle.key_records.specs.declared.faults.RecordFault.TheVariants.{DiskFault}
use Rattle.record_bodies.proofs.ListedLaws.{not_held}

pub returns-in-None-clause-changes : goal.returns-in-None-clause-changes
returns-in-None-clause-changes g c m s loaded told =
    let masters = keys_of m in
    let m0 = g.D.Disk.medium c.args.store.now in
    changes_none c.args.action masters c.args.cell s m0 m0 c.args.records.now c.requires.store.settled (keeps_still m0) told
    (told_map m0 (KeepsLabels masters c.args.records.now s) (λ _. is_changed c.args.action (entry_at s c.args.cell) ≡ false) told
    (λ image keeps. no_label c.args.action (entry_at s c.args.cell)
    (sym (label_of_entry s c.args.cell) ∙ ap (λ d. label_at d c.args.cell) (same_directory masters c.args.records.now s keeps.agrees) ∙ c.in-None.ensures.none refl)))

pub returns-then-not-may_change-clause-changes : goal.returns-then-not-may_change-clause-changes
returns-then-not-may_change-clause-changes g c m s loaded told =
    let masters = keys_of m in
    let m0 = g.D.Disk.medium c.args.store.now in
    let place : ℕ = c.in-Some.place in
    let within : place < 1024 = omega (arith, c.in-Some.ensures.place, c.requires.within) in
    subst (λ n. ChangesCell c.args.action masters n s c.args.records.now c.args.records.now m0 m0 (Ok false)) c.in-Some.ensures.place
    (changes_none c.args.action masters place s m0 m0 c.args.records.now c.requires.store.settled (keeps_still m0) told
    (told_map m0 (KeepsLabels masters c.args.records.now s) (λ _. is_changed c.args.action (entry_at s place) ≡ false) told
    (λ image keeps. may_not c.args.action masters c.args.records.now s place image keeps within (sym c.may_change.ensures ∙ c.if-not-may_change.true))))

pub returns-in-Err-clause-changes : goal.returns-in-Err-clause-changes
returns-in-Err-clause-changes g c m s loaded told =
    changes_unread c.args.action (keys_of m) c.args.cell s (g.D.Disk.medium c.args.store.now) (g.D.Disk.medium c.read.new.store) c.args.records.now c.requires.store.settled c.read.ensures.keeps told c.in-Err.fault

pub returns-then-not-found-clause-changes : goal.returns-then-not-found-clause-changes
returns-then-not-found-clause-changes g c m s loaded told =
    let masters = keys_of m in
    let a = c.args.action in
    let m0 = g.D.Disk.medium c.args.store.now in
    let m1 = g.D.Disk.medium c.read.new.store in
    let place : ℕ = c.in-Some.place in
    let rows : List (Option Row) = c.args.records.now in
    let within : place < 1024 = omega (arith, c.in-Some.ensures.place, c.requires.within) in
    let token : List ℕ = c.read.new.out in
    let read = subst (λ b. Told m0 (λ _. ReadsToken masters (entry_at s place) b token)) c.if-not-found.true (c.in-Ok.ensures.token masters s told) in
    subst (λ n. ChangesCell a masters n s rows rows m0 m1 (Ok false)) c.in-Some.ensures.place
    (changes_none a masters place s m0 m1 rows c.requires.store.settled c.read.ensures.keeps told
    (told_joined m0 (KeepsLabels masters rows s) (λ _. ReadsToken masters (entry_at s place) false token) (λ _. is_changed a (entry_at s place) ≡ false) told read
    (λ image keeps reads. does_not a masters rows s place image keeps within None (reads_null masters (entry_at s place) token reads) (null_changes a))))

pub returns-in-None-made_tokens-clause-changes : goal.returns-in-None-made_tokens-clause-changes
returns-in-None-made_tokens-clause-changes g c m s loaded told =
    let masters = keys_of m in
    let a = c.args.action in
    let m0 = g.D.Disk.medium c.args.store.now in
    let m1 = g.D.Disk.medium c.read.new.store in
    let place : ℕ = c.in-Some.place in
    let rows : List (Option Row) = c.args.records.now in
    let within : place < 1024 = omega (arith, c.in-Some.ensures.place, c.requires.within) in
    let token : List ℕ = c.read.new.out in
    let read = subst (λ b. Told m0 (λ _. ReadsToken masters (entry_at s place) b token)) c.if-not-found.false (c.in-Ok.ensures.token masters s told) in
    let now = loaded_body m c.args.held.now c.args.lease.now c.read.new.lease loaded c.read.ensures.rest in
    let none : false ≡ changes_key a (denoted masters token) = c.in-None-made_tokens.ensures.some m now in
    subst (λ n. ChangesCell a masters n s rows rows m0 m1 (Ok false)) c.in-Some.ensures.place
    (changes_none a masters place s m0 m1 rows c.requires.store.settled c.read.ensures.keeps told
    (told_joined m0 (KeepsLabels masters rows s) (λ _. ReadsToken masters (entry_at s place) true token) (λ _. is_changed a (entry_at s place) ≡ false) told read
    (λ image keeps reads. does_not a masters rows s place image keeps within (denoted masters token) (reads_what masters (entry_at s place) token reads) (sym none))))

-- ---- the tokens that are put

-- what they stand for
made_at : (g : _) (c : In-Some-made_tokens g) (m : Masters) → Loaded m c.args.held.now (bench_of c.read.new.lease)
    → IsMade c.args.action (keys_of m) c.read.new.out c.in-Some-made_tokens.tokens
made_at g c m now =
    made_is (keys_of m) c.read.new.out c.args.action c.in-Some-made_tokens.tokens (sym (c.in-Some-made_tokens.ensures.some m now)) (c.in-Some-made_tokens.ensures.made m now)

-- the labels that they make
abbrev next_at : (g : _) (c : In-Some-made_tokens g) (m : Masters) → Loaded m c.args.held.now (bench_of c.read.new.lease) → List (Option Entry) → List (Option Entry)
next_at g c m now s = put_in c.in-Some-made_tokens.tokens c.in-Some.place (made_at g c m now).key s

turn_at : (g : _) (c : In-Some-made_tokens g) (m : Masters) (now : Loaded m c.args.held.now (bench_of c.read.new.lease)) (s : List (Option Entry))
    → Told (g.D.Disk.medium c.args.store.now) (KeepsLabels (keys_of m) c.args.records.now s)
    → Told (g.D.Disk.medium c.args.store.now) (λ _. IsTurn c.args.action c.in-Some.place s (next_at g c m now s))
turn_at g c m now s told =
    let masters = keys_of m in
    let a = c.args.action in
    let m0 = g.D.Disk.medium c.args.store.now in
    let place : ℕ = c.in-Some.place in
    let rows : List (Option Row) = c.args.records.now in
    let within : place < 1024 = omega (arith, c.in-Some.ensures.place, c.requires.within) in
    let token : List ℕ = c.read.new.out in
    let tokens = c.in-Some-made_tokens.tokens in
    let read = subst (λ b. Told m0 (λ _. ReadsToken masters (entry_at s place) b token)) c.if-not-found.false (c.in-Ok.ensures.token masters s told) in
    told_joined m0 (KeepsLabels masters rows s) (λ _. ReadsToken masters (entry_at s place) true token) (λ _. IsTurn a place s (next_at g c m now s)) told read
    (λ image keeps reads. is_turn a masters rows s place image keeps within token tokens (made_at g c m now) reads (sym (c.in-Some-made_tokens.ensures.some m now))
    (sym c.may_change.ensures ∙ c.if-not-may_change.false))

pub put-requires-clause-ready : goal.put-requires-clause-ready
put-requires-clause-ready g c =
    let held = c.args.held.now in
    let m = masters_in held (bench_of c.args.lease.now) in
    let tokens = c.in-Some-made_tokens.tokens in
    let now = loaded_body m held c.args.lease.now c.read.new.lease c.requires.loaded c.read.ensures.rest in
    let last = loaded_after m held c.read.new.lease c.made_tokens.new.lease now c.made_tokens.ensures.stays in
    let made = made_at g (goal.at.put-requires-clause-ready g c).In-Some-made_tokens m now in
    subst (λ (n : Masters). CanBeWritten (keys_of n) tokens) (sym (loaded_one m held (bench_of c.made_tokens.new.lease) last)) (can_write (keys_of m) tokens made.key made.stand)

pub returns-in-Err-put-clause-changes : goal.returns-in-Err-put-clause-changes
returns-in-Err-put-clause-changes g c m s loaded told =
    let at = (goal.at.returns-in-Err-put-clause-changes g c).In-Some-made_tokens in
    let masters = keys_of m in
    let a = c.args.action in
    let m0 = g.D.Disk.medium c.args.store.now in
    let m1 = g.D.Disk.medium c.read.new.store in
    let m2 = g.D.Disk.medium c.put.new.store in
    let place : ℕ = c.in-Some.place in
    let rows : List (Option Row) = c.args.records.now in
    let now = loaded_body m c.args.held.now c.args.lease.now c.read.new.lease loaded c.read.ensures.rest in
    let made = made_at g at m now in
    subst (λ n. ChangesCell a masters n s rows c.put.new.records m0 m2 (Err c.in-Err-put.fault)) c.in-Some.ensures.place
    (changes_failed a masters place s (next_at g at m now s) m0 m1 m2 rows c.put.new.records c.requires.store.settled c.read.ensures.keeps told (turn_at g at m now s told) c.in-Err-put.fault c.in-Err-put.ensures.changes.memory.kept
    (c.in-Err-put.ensures.labels masters s made.key (told_still m0 m1 (KeepsLabels masters rows s) c.read.ensures.keeps told) made.stand))

pub returns-in-Ok-put-clause-changes : goal.returns-in-Ok-put-clause-changes
returns-in-Ok-put-clause-changes g c m s loaded told =
    let at = (goal.at.returns-in-Ok-put-clause-changes g c).In-Some-made_tokens in
    let masters = keys_of m in
    let a = c.args.action in
    let m0 = g.D.Disk.medium c.args.store.now in
    let m1 = g.D.Disk.medium c.read.new.store in
    let m2 = g.D.Disk.medium c.put.new.store in
    let place : ℕ = c.in-Some.place in
    let rows : List (Option Row) = c.args.records.now in
    let now = loaded_body m c.args.held.now c.args.lease.now c.read.new.lease loaded c.read.ensures.rest in
    let made = made_at g at m now in
    subst (λ n. ChangesCell a masters n s rows c.put.new.records m0 m2 (Ok true)) c.in-Some.ensures.place
    (changes_written a masters place s (next_at g at m now s) m0 m1 m2 rows c.put.new.records c.requires.store.settled c.read.ensures.keeps told (turn_at g at m now s told) _ c.in-Ok-put.ensures.changes.cell
    (c.in-Ok-put.ensures.labels masters s made.key (told_still m0 m1 (KeepsLabels masters rows s) c.read.ensures.keeps told) made.stand))

-- ---- the bytes and the rows, whatever the labels stand for

pub returns-in-None-clause-turns : goal.returns-in-None-clause-turns
returns-in-None-clause-turns g c =
    let m0 = g.D.Disk.medium c.args.store.now in
    turns_kept (IsChangedRow c.args.action c.args.held.now c.args.records.now c.args.cell) c.args.cell m0 m0 c.requires.store.settled (keeps_still m0) (Ok false)

pub returns-then-not-may_change-clause-turns : goal.returns-then-not-may_change-clause-turns
returns-then-not-may_change-clause-turns g c =
    let m0 = g.D.Disk.medium c.args.store.now in
    turns_kept (IsChangedRow c.args.action c.args.held.now c.args.records.now c.args.cell) c.args.cell m0 m0 c.requires.store.settled (keeps_still m0) (Ok false)

pub returns-in-None-made_tokens-clause-turns : goal.returns-in-None-made_tokens-clause-turns
returns-in-None-made_tokens-clause-turns g c =
    turns_kept (IsChangedRow c.args.action c.args.held.now c.args.records.now c.args.cell) c.args.cell
    (g.D.Disk.medium c.args.store.now) (g.D.Disk.medium c.read.new.store) c.requires.store.settled c.read.ensures.keeps (Ok false)

-- the token was read: `done` says whether its key is one that the action changes, and so does the memory
row_is : (g : _) (c : After-made_tokens g) (done : Bool)
    → ((m : Masters) → Loaded m c.args.held.now (bench_of c.read.new.lease) → done ≡ changes_key c.args.action (denoted (keys_of m) c.read.new.out))
    → done ≡ changes_row c.args.action c.args.held.now (get_or c.args.records.now c.in-Some.place None)
row_is g c done made =
    let a = c.args.action in
    let m = masters_in c.args.held.now (bench_of c.args.lease.now) in
    let rows : List (Option Row) = c.args.records.now in
    let place : ℕ = c.in-Some.place in
    let token : List ℕ = c.read.new.out in
    let bytes = (bench_of c.read.new.lease).body in
    let now = loaded_body m c.args.held.now c.args.lease.now c.read.new.lease c.requires.loaded c.read.ensures.rest in
    let may : may_change a (is_ahead_row (get_or rows place None)) ≡ true = sym c.may_change.ensures ∙ c.if-not-may_change.false in
    made m now
    ∙ sym (and_true (changes_key a (denoted (keys_of m) token)))
    ∙ ap (λ b. changes_key a (denoted (keys_of m) token) && b) (sym may)
    ∙ sym (row_changes a c.args.held.now m (bench_of c.read.new.lease) now rows place token bytes
    (subst (λ (b : Bool). IsReadOf (get_or rows place None) bytes b token) c.if-not-found.false c.in-Ok.ensures.own))

-- a label that is written is one that the action changes
is_written : (a : StoreAction) (held : Registers) (rows : List (Option Row)) (place : ℕ) (m : Medium) → true ≡ changes_row a held (get_or rows place None) → Told m (λ _. IsChangedRow a held rows place)
is_written a held rows place m is = told_all m (λ _. IsChangedRow a held rows place) (λ _. sym is)

pub returns-in-Err-put-clause-turns : goal.returns-in-Err-put-clause-turns
returns-in-Err-put-clause-turns g c =
    let a = c.args.action in
    let held = c.args.held.now in
    let m0 = g.D.Disk.medium c.args.store.now in
    let m2 = g.D.Disk.medium c.put.new.store in
    let rows : List (Option Row) = c.args.records.now in
    let place : ℕ = c.in-Some.place in
    subst (λ n. TurnsCell (IsChangedRow a held rows n) n m0 m2 (Err c.in-Err-put.fault)) c.in-Some.ensures.place
    (turns_failed (IsChangedRow a held rows place) place m0 (g.D.Disk.medium c.read.new.store) c.requires.store.settled c.read.ensures.keeps m2 _
    (is_written a held rows place m0 (row_is g (goal.at.returns-in-Err-put-clause-turns g c).After-made_tokens true c.in-Some-made_tokens.ensures.some))
    c.in-Err-put.fault _ c.in-Err-put.ensures.changes.cell)

pub returns-in-Err-put-clause-row : goal.returns-in-Err-put-clause-row
returns-in-Err-put-clause-row g c = λ none. ap (λ (r : List (Option Row)). get_or r c.args.cell None) c.in-Err-put.ensures.changes.memory.kept

pub returns-in-Err-put-clause-others : goal.returns-in-Err-put-clause-others
returns-in-Err-put-clause-others g c n other = ap (λ (r : List (Option Row)). get_or r n None) c.in-Err-put.ensures.changes.memory.kept

pub returns-in-Ok-put-clause-turns : goal.returns-in-Ok-put-clause-turns
returns-in-Ok-put-clause-turns g c =
    let a = c.args.action in
    let held = c.args.held.now in
    let m0 = g.D.Disk.medium c.args.store.now in
    let m2 = g.D.Disk.medium c.put.new.store in
    let rows : List (Option Row) = c.args.records.now in
    let place : ℕ = c.in-Some.place in
    subst (λ n. TurnsCell (IsChangedRow a held rows n) n m0 m2 (Ok true)) c.in-Some.ensures.place
    (turns_written (IsChangedRow a held rows place) place m0 (g.D.Disk.medium c.read.new.store) c.requires.store.settled c.read.ensures.keeps m2 _
    (is_written a held rows place m0 (row_is g (goal.at.returns-in-Ok-put-clause-turns g c).After-made_tokens true c.in-Some-made_tokens.ensures.some)) c.in-Ok-put.ensures.changes.cell)

pub returns-in-Ok-put-clause-row : goal.returns-in-Ok-put-clause-row
returns-in-Ok-put-clause-row g c = λ none.
    absurd (none (subst (IsChangedRow c.args.action c.args.held.now c.args.records.now) c.in-Some.ensures.place
    (sym (row_is g (goal.at.returns-in-Ok-put-clause-row g c).After-made_tokens true c.in-Some-made_tokens.ensures.some))))

pub returns-in-Ok-put-clause-others : goal.returns-in-Ok-put-clause-others
returns-in-Ok-put-clause-others g c n other =
    ap (λ (r : List (Option Row)). get_or r n None) c.in-Ok-put.ensures.changes.memory.done
    ∙ get_or-set_other c.args.records.now c.in-Some.place n _ None (λ is. other (is ∙ c.in-Some.ensures.place))

-- ---- the count

pub returns-in-None-clause-count : goal.returns-in-None-clause-count
returns-in-None-clause-count g c =
    let rows : List (Option Row) = c.args.records.now in
    sym (no_row_stays c.args.action c.args.held.now (get_or rows c.args.cell None) (sym (label_of_row rows c.args.cell) ∙ c.in-None.ensures.none refl))

pub returns-then-not-may_change-clause-count : goal.returns-then-not-may_change-clause-count
returns-then-not-may_change-clause-count g c =
    let rows : List (Option Row) = c.args.records.now in
    subst (λ n. false ≡ changes_row c.args.action c.args.held.now (get_or rows n None)) c.in-Some.ensures.place
    (sym (marked_row_stays c.args.action c.args.held.now (get_or rows c.in-Some.place None) (sym c.may_change.ensures ∙ c.if-not-may_change.true)))

pub returns-then-not-found-clause-count : goal.returns-then-not-found-clause-count
returns-then-not-found-clause-count g c =
    let rows : List (Option Row) = c.args.records.now in
    subst (λ n. false ≡ changes_row c.args.action c.args.held.now (get_or rows n None)) c.in-Some.ensures.place
    (sym (null_row_stays c.args.action c.args.held.now (get_or rows c.in-Some.place None) (sym c.in-Ok.ensures.null ∙ c.if-not-found.true)))

pub returns-in-Err-clause-count : goal.returns-in-Err-clause-count
returns-in-Err-clause-count g c = tt

pub returns-in-None-made_tokens-clause-count : goal.returns-in-None-made_tokens-clause-count
returns-in-None-made_tokens-clause-count g c =
    subst (λ n. false ≡ changes_row c.args.action c.args.held.now (get_or c.args.records.now n None)) c.in-Some.ensures.place
    (row_is g (goal.at.returns-in-None-made_tokens-clause-count g c).After-made_tokens false c.in-None-made_tokens.ensures.some)

pub returns-in-Ok-put-clause-count : goal.returns-in-Ok-put-clause-count
returns-in-Ok-put-clause-count g c =
    subst (λ n. true ≡ changes_row c.args.action c.args.held.now (get_or c.args.records.now n None)) c.in-Some.ensures.place
    (row_is g (goal.at.returns-in-Ok-put-clause-count g c).After-made_tokens true c.in-Some-made_tokens.ensures.some)

-- ---- by what was read

-- of a label that may not change nothing is asked
none_as_read : (a : StoreAction) (masters : MasterKeys) (before now : Option Row) (bytes : List ℕ) (done : Bool) → ⊥ → TurnsAsRead a masters before now bytes done
none_as_read a masters before now bytes done wrong = absurd wrong

pub returns-in-None-clause-own : goal.returns-in-None-clause-own
returns-in-None-clause-own g c m loaded held may =
    let row = get_or c.args.records.now c.args.cell None in
    none_as_read c.args.action (keys_of m) row row (bench_of c.args.lease.now).body false (not_held (label_at (row_directory c.args.records.now) c.args.cell) (c.in-None.ensures.none refl) held)

pub returns-then-not-may_change-clause-own : goal.returns-then-not-may_change-clause-own
returns-then-not-may_change-clause-own g c m loaded held may =
    let rows : List (Option Row) = c.args.records.now in
    let row = get_or rows c.args.cell None in
    let stays = subst (λ n. may_change c.args.action (is_ahead_row (get_or rows n None)) ≡ false) c.in-Some.ensures.place (sym c.may_change.ensures ∙ c.if-not-may_change.true) in
    none_as_read c.args.action (keys_of m) row row (bench_of c.args.lease.now).body false (not_true (may_change c.args.action (is_ahead_row row)) stays may)

pub returns-in-Err-clause-own : goal.returns-in-Err-clause-own
returns-in-Err-clause-own g c m loaded held may = tt

pub returns-then-not-found-clause-own : goal.returns-then-not-found-clause-own
returns-then-not-found-clause-own g c = λ m loaded held may.
    let rows : List (Option Row) = c.args.records.now in
    let bytes = (bench_of c.read.new.lease).body in
    subst (λ n. TurnsAsRead c.args.action (keys_of m) (get_or rows n None) (get_or rows n None) bytes false) c.in-Some.ensures.place
    (record {
      stays = λ _. record {
        found = c.in-Ok.found;
        token = c.read.new.out;
        read = c.in-Ok.ensures.own;
        null = c.in-Ok.ensures.null;
        stays = λ found. absurd (not_true _ c.if-not-found.true found);
      };
      turns = λ done. absurd (not_true _ refl done);
    })

pub returns-in-None-made_tokens-clause-own : goal.returns-in-None-made_tokens-clause-own
returns-in-None-made_tokens-clause-own g c = λ m loaded held may.
    let rows : List (Option Row) = c.args.records.now in
    let now = loaded_body m c.args.held.now c.args.lease.now c.read.new.lease loaded c.read.ensures.rest in
    let none : false ≡ changes_key c.args.action (denoted (keys_of m) c.read.new.out) = c.in-None-made_tokens.ensures.some m now in
    let still = body_stays c.read.new.lease c.made_tokens.new.lease c.made_tokens.ensures.stays in
    let row = get_or rows c.in-Some.place None in
    subst (λ n. TurnsAsRead c.args.action (keys_of m) (get_or rows n None) (get_or rows n None) (bench_of c.made_tokens.new.lease).body false) c.in-Some.ensures.place
    (record {
      stays = λ _. subst (λ (bytes : List ℕ). StaysAsRead c.args.action (keys_of m) row bytes) (sym still) (record {
        found = c.in-Ok.found;
        token = c.read.new.out;
        read = c.in-Ok.ensures.own;
        null = c.in-Ok.ensures.null;
        stays = λ found. sym none;
      });
      turns = λ done. absurd (not_true _ refl done);
    })

pub returns-in-Ok-put-clause-own : goal.returns-in-Ok-put-clause-own
returns-in-Ok-put-clause-own g c = λ m loaded held may.
    let rows : List (Option Row) = c.args.records.now in
    let at = (goal.at.returns-in-Ok-put-clause-own g c).In-Some-made_tokens in
    let now = loaded_body m c.args.held.now c.args.lease.now c.read.new.lease loaded c.read.ensures.rest in
    subst (λ n. TurnsAsRead c.args.action (keys_of m) (get_or rows n None) (get_or c.put.new.records n None) (bench_of c.put.new.lease).body true) c.in-Some.ensures.place
    (record {
      stays = λ done. absurd (not_true _ done refl);
      turns = λ done. record {
        token = c.read.new.out;
        changes = sym (c.in-Some-made_tokens.ensures.some m now);
        tokens = c.in-Some-made_tokens.tokens;
        made = c.in-Some-made_tokens.ensures.made m now;
        row = ap (λ (r : List (Option Row)). get_or r c.in-Some.place None) c.in-Ok-put.ensures.changes.memory.done ∙ row_put rows c.in-Some.place _ c.in-Some.ensures.held;
      };
    })

pub returns-in-Err-put-clause-own : goal.returns-in-Err-put-clause-own
returns-in-Err-put-clause-own g c m loaded held may = tt

pub returns-in-Err-put-clause-count : goal.returns-in-Err-put-clause-count
returns-in-Err-put-clause-count g c = tt

-- ---- what the calls ask

pub place_in-requires : goal.place_in-requires
place_in-requires g c = c.requires.within

pub may_change-requires : goal.may_change-requires
may_change-requires g c = c.in-Some.ensures.held

pub read-requires-clause-held : goal.read-requires-clause-held
read-requires-clause-held g c = c.in-Some.ensures.held

pub read-requires-clause-size : goal.read-requires-clause-size
read-requires-clause-size g c = c.requires.store.size

pub read-requires-clause-holds : goal.read-requires-clause-holds
read-requires-clause-holds g c = c.requires.store.holds

pub made_tokens-requires-clause-current : goal.made_tokens-requires-clause-current
made_tokens-requires-clause-current g c = c.requires.current

pub made_tokens-requires-clause-coming : goal.made_tokens-requires-clause-coming
made_tokens-requires-clause-coming g c = coming_body c.args.coming c.args.lease.now c.read.new.lease c.read.ensures.rest c.requires.coming

pub made_tokens-requires-clause-ready : goal.made_tokens-requires-clause-ready
made_tokens-requires-clause-ready g c = ready_body c.args.action c.args.held.now c.args.lease.now c.read.new.lease c.read.ensures.rest c.requires.ready

pub put-requires-clause-held : goal.put-requires-clause-held
put-requires-clause-held g c = c.in-Some.ensures.held

pub put-requires-clause-size : goal.put-requires-clause-size
put-requires-clause-size g c = c.read.ensures.keeps.moments.size ∙ c.requires.store.size

pub put-requires-clause-settled : goal.put-requires-clause-settled
put-requires-clause-settled g c =
    settled_kept (g.D.Disk.medium c.args.store.now) (g.D.Disk.medium c.read.new.store) c.read.ensures.keeps c.requires.store.settled

pub put-requires-clause-holds : goal.put-requires-clause-holds
put-requires-clause-holds g c =
    told_still (g.D.Disk.medium c.args.store.now) (g.D.Disk.medium c.read.new.store) (HoldsRows c.args.records.now) c.read.ensures.keeps c.requires.store.holds

pub put-requires-clause-loaded : goal.put-requires-clause-loaded
put-requires-clause-loaded g c =
    let held = c.args.held.now in
    let m = masters_in held (bench_of c.args.lease.now) in
    let now = loaded_body m held c.args.lease.now c.read.new.lease c.requires.loaded c.read.ensures.rest in
    let last = loaded_after m held c.read.new.lease c.made_tokens.new.lease now c.made_tokens.ensures.stays in
    subst (λ (n : Masters). Loaded n held (bench_of c.made_tokens.new.lease)) (sym (loaded_one m held (bench_of c.made_tokens.new.lease) last)) last

-- ---- the rows that stay

pub returns-in-None-clause-row : goal.returns-in-None-clause-row
returns-in-None-clause-row g c none = refl

pub returns-in-None-clause-others : goal.returns-in-None-clause-others
returns-in-None-clause-others g c n other = refl

pub returns-then-not-may_change-clause-row : goal.returns-then-not-may_change-clause-row
returns-then-not-may_change-clause-row g c none = refl

pub returns-then-not-may_change-clause-others : goal.returns-then-not-may_change-clause-others
returns-then-not-may_change-clause-others g c n other = refl

pub returns-in-Err-clause-row : goal.returns-in-Err-clause-row
returns-in-Err-clause-row g c none = refl

pub returns-in-Err-clause-others : goal.returns-in-Err-clause-others
returns-in-Err-clause-others g c n other = refl

pub returns-then-not-found-clause-row : goal.returns-then-not-found-clause-row
returns-then-not-found-clause-row g c none = refl

pub returns-then-not-found-clause-others : goal.returns-then-not-found-clause-others
returns-then-not-found-clause-others g c n other = refl

pub returns-in-None-made_tokens-clause-row : goal.returns-in-None-made_tokens-clause-row
returns-in-None-made_tokens-clause-row g c none = refl

pub returns-in-None-made_tokens-clause-others : goal.returns-in-None-made_tokens-clause-others
returns-in-None-made_tokens-clause-others g c n other = refl

pub returns-in-Err-clause-turns : goal.returns-in-Err-clause-turns
returns-in-Err-clause-turns g c =
    turns_kept (IsChangedRow c.args.action c.args.held.now c.args.records.now c.args.cell) c.args.cell
    (g.D.Disk.medium c.args.store.now) (g.D.Disk.medium c.read.new.store) c.requires.store.settled c.read.ensures.keeps (Err c.in-Err.fault)

pub returns-then-not-found-clause-turns : goal.returns-then-not-found-clause-turns
returns-then-not-found-clause-turns g c =
    turns_kept (IsChangedRow c.args.action c.args.held.now c.args.records.now c.args.cell) c.args.cell
    (g.D.Disk.medium c.args.store.now) (g.D.Disk.medium c.read.new.store) c.requires.store.settled c.read.ensures.keeps (Ok false)

-- ---- what is left of any store

pub returns-in-None-clause-left : goal.returns-in-None-clause-left
returns-in-None-clause-left g c =
    left_untouched g.D.Disk.medium g.D.Disk.faults (IsTurnOf c.args.records.now c.args.cell) c.args.lease.now c.args.records.now c.args.store.now false c.requires.store

pub returns-then-not-may_change-clause-left : goal.returns-then-not-may_change-clause-left
returns-then-not-may_change-clause-left g c =
    left_untouched g.D.Disk.medium g.D.Disk.faults (IsTurnOf c.args.records.now c.args.cell) c.args.lease.now c.args.records.now c.args.store.now false c.requires.store

pub returns-in-Err-clause-left : goal.returns-in-Err-clause-left
returns-in-Err-clause-left g c =
    left_unread g.D.Disk.medium g.D.Disk.faults c.args.lease.now c.read.new.lease c.args.records.now c.args.store.now c.read.new.store c.args.cell c.requires.store c.read.ensures.keeps
    c.in-Err.fault c.in-Some.place c.in-Some.ensures.place c.in-Some.ensures.held c.in-Err.ensures.damaged c.in-Err.ensures.faults c.in-Err.ensures.cause c.read.ensures.rest

pub returns-then-not-found-clause-left : goal.returns-then-not-found-clause-left
returns-then-not-found-clause-left g c =
    left_read g.D.Disk.medium g.D.Disk.faults c.args.lease.now c.read.new.lease c.args.records.now c.args.store.now c.read.new.store c.args.cell c.requires.store c.read.ensures.keeps
    c.in-Ok.found false c.in-Ok.ensures.cause (changes_body c.args.lease.now c.read.new.lease c.read.ensures.rest)

pub returns-in-None-made_tokens-clause-left : goal.returns-in-None-made_tokens-clause-left
returns-in-None-made_tokens-clause-left g c =
    left_read g.D.Disk.medium g.D.Disk.faults c.args.lease.now c.made_tokens.new.lease c.args.records.now c.args.store.now c.read.new.store c.args.cell c.requires.store c.read.ensures.keeps
    c.in-Ok.found false c.in-Ok.ensures.cause
    (body_and_place c.args.lease.now c.read.new.lease c.made_tokens.new.lease c.read.ensures.rest c.made_tokens.ensures.stays)

pub returns-in-Ok-put-clause-left : goal.returns-in-Ok-put-clause-left
returns-in-Ok-put-clause-left g c =
    let rows : List (Option Row) = c.args.records.now in
    let label = label_or (get_or rows c.in-Some.place None) in
    let tokens = c.in-Some-made_tokens.tokens in
    left_put g.D.Disk.medium g.D.Disk.faults c.args.lease.now c.made_tokens.new.lease c.args.records.now c.args.store.now c.read.new.store c.args.cell c.requires.store c.read.ensures.keeps
    c.put.new.lease c.put.new.records c.put.new.store c.in-Some.place (body_of label tokens) (Some (row_of label tokens)) c.in-Ok.found c.in-Ok.ensures.cause
    (body_and_place c.args.lease.now c.read.new.lease c.made_tokens.new.lease c.read.ensures.rest c.made_tokens.ensures.stays)
    c.in-Ok-put.ensures.changes c.in-Ok-put.ensures.directory

pub returns-in-Err-put-clause-left : goal.returns-in-Err-put-clause-left
returns-in-Err-put-clause-left g c =
    let rows : List (Option Row) = c.args.records.now in
    let label = label_or (get_or rows c.in-Some.place None) in
    let tokens = c.in-Some-made_tokens.tokens in
    left_unput g.D.Disk.medium g.D.Disk.faults c.args.lease.now c.made_tokens.new.lease c.args.records.now c.args.store.now c.read.new.store c.args.cell c.requires.store c.read.ensures.keeps
    c.put.new.lease c.put.new.records c.put.new.store c.in-Some.place (body_of label tokens) (Some (row_of label tokens)) c.in-Ok.found c.in-Ok.ensures.cause
    (body_and_place c.args.lease.now c.read.new.lease c.made_tokens.new.lease c.read.ensures.rest c.made_tokens.ensures.stays)
    c.in-Err-put.fault c.in-Err-put.ensures.changes c.in-Err-put.ensures.faults

-- ---- a cell is told as damaged by what was read of it

pub returns-in-None-clause-misread : goal.returns-in-None-clause-misread
returns-in-None-clause-misread g c n is reads = no_err is

pub returns-then-not-may_change-clause-misread : goal.returns-then-not-may_change-clause-misread
returns-then-not-may_change-clause-misread g c n is reads = no_err is

pub returns-then-not-found-clause-misread : goal.returns-then-not-found-clause-misread
returns-then-not-found-clause-misread g c n is reads = no_err is

pub returns-in-None-made_tokens-clause-misread : goal.returns-in-None-made_tokens-clause-misread
returns-in-None-made_tokens-clause-misread g c n is reads = no_err is

pub returns-in-Ok-put-clause-misread : goal.returns-in-Ok-put-clause-misread
returns-in-Ok-put-clause-misread g c n is reads = no_err is

pub returns-in-Err-clause-misread : goal.returns-in-Err-clause-misread
returns-in-Err-clause-misread g c n is reads =
    c.in-Err.ensures.misread n is
    (subst (λ (k : ℕ). ReadsRow (bench_of c.read.new.lease).body (get_or c.args.records.now k None)) (c.in-Err.ensures.damaged n is).0 reads)

pub returns-in-Err-put-clause-misread : goal.returns-in-Err-put-clause-misread
returns-in-Err-put-clause-misread g c n is reads = let failed : c.in-Err-put.fault ≡ DiskFault = c.in-Err-put.ensures.faults in absurd (cc (failed, is))
