-- One cell's turn.
use Rattle.std.proofs.Common.{◌≡◌, ◌<◌, inl, inr, ⊎_elim, ℕ, zero, suc, List, [], ◌∷◌, length, Option, None, Some, Ok, Err, Bool, true, false, set, get_or, refl, sym, ap, subst, ◌∙◌, arith}
use Rattle.std.specs.Prelude.{is_some, not, ◌&&◌, IsSome}
use Rattle.std.proofs.lemmas.List.{get_or-set_same, set-get_or, map-set}
use Rattle.cca_roles.proofs.DirectoryLaws.{none_some}
use Rattle.key_cells.specs.Bench.{Bench}
use Rattle.key_cells.specs.Lease.{bench_of, holding}
use Rattle.key_cells.specs.declared.leases.Lease.{Lease}
use Rattle.device_cells.specs.Cells.{body}
use Rattle.device_cells.specs.Medium.{Medium, Told, IsSettled, From, Becomes, EachImage, Keeps}
use Rattle.device_cells.proofs.Media.{told_from, told_at, each_weaker, goes_on, told_joined, told_map, told_still}
use Rattle.key_tokens.specs.Denotes.{ClearKey, Denoted, MasterKeys, denoted}
use Rattle.key_tokens.specs.declared.key_token.Age.TheVariants.{Current}
use Rattle.record_bodies.specs.Ages.{is_old, has_old_key, is_ahead_entry}
use Rattle.key_records.specs.Changes.{ReadsToken, ReplacesBody, ChangesLabels, HoldsEither, KeepsAllButBody, ChangesKeyAndBody, AreBoth, is_ahead_row}
use Rattle.record_bodies.specs.LabelChanges.{with_what, with_both}
use Rattle.record_bodies.specs.Directory.{label_at}
use Rattle.record_bodies.specs.Entries.{Entry, entry, entry_label, remembered, pattern_ahead, row_directory, row_label, label_or}
use Rattle.record_bodies.specs.RecordBody.{HasToken, ReadsEntry, ReadsWhat}
use Rattle.record_bodies.specs.StoreStands.{StandsForLabels, KeepsLabels, entry_at}
use Rattle.key_records.specs.declared.faults.RecordFault.{RecordFault}
use Rattle.record_bodies.specs.declared.rows.Row.{Row}
use Rattle.record_bodies.proofs.RowLaws.{label_of_row}
use Rattle.key_records.proofs.ReadLaws.{row_of_entry}
use Rattle.master_registers.specs.Loaded.{Loaded, ArePlaced}
use Rattle.master_registers.specs.Masters.{Masters}
use Rattle.master_registers.specs.declared.registers.Registers.{Registers}
use Rattle.record_bodies.specs.Further.{under_current, has_current_key, changed_entry, is_changed, made_by}
use Rattle.reencipher.specs.Runs.{IsChanged}
use Rattle.key_records.specs.Ready.{IsReadyFor}
use Rattle.master_registers.specs.declared.patterns.Pattern.{Pattern}
use Rattle.reencipher.specs.Tokens.{IsComing, StandFor, CanBeWritten, AreMade, put_in, changes_key, may_change}
use Rattle.reencipher.specs.Turns.{changed_at, HoldsTurn, ChangesCell}
use Rattle.record_bodies.specs.declared.actions.StoreAction.{StoreAction}
use Rattle.record_bodies.specs.declared.actions.StoreAction.TheVariants.{Renew, Ahead, Drop}
use Rattle.reencipher.specs.declared.writing.Tokens.{Tokens}
use Rattle.reencipher.specs.declared.writing.Tokens.TheVariants.{One, Two}
use Rattle.record_bodies.proofs.FurtherLaws.{and_false, changed_is, changed_same}
use Rattle.key_records.proofs.AgeLaws.{kept_denoted}

-- ---- the label and its token

-- the key of a label
abbrev pub what_of : Option Entry → Option Denoted
what_of None = None
what_of (Some e) = e.what

-- the token that is read is that of the label's key
pub reads_what : (masters : MasterKeys) (o : Option Entry) (token : List ℕ) → ReadsToken masters o true token → what_of o ≡ denoted masters token
reads_what masters None token reads = absurd reads
reads_what masters (Some e) token reads = by_what e.what refl reads.0
  where
    by_what : (w : Option Denoted) → e.what ≡ w → true ≡ is_some e.what → e.what ≡ denoted masters token
    by_what None is some = let wrong : true ≡ false = some ∙ ap (λ o. is_some o) is in absurd (cc)
    by_what (Some key) is some = is ∙ sym (kept_denoted masters token key (reads.1 key is))

-- a null label
pub reads_null : (masters : MasterKeys) (o : Option Entry) (token : List ℕ) → ReadsToken masters o false token → what_of o ≡ None
reads_null masters None token reads = refl
reads_null masters (Some e) token reads = by_what e.what refl reads.0
  where
    by_what : (w : Option Denoted) → e.what ≡ w → false ≡ is_some e.what → e.what ≡ None
    by_what None is some = is
    by_what (Some key) is some = let wrong : false ≡ true = some ∙ ap (λ o. is_some o) is in absurd (cc)

-- a label that is ahead is under the current master key
ahead_current : (masters : MasterKeys) (bytes : List ℕ) (e : Entry) → ReadsEntry masters bytes (Some e) → e.ahead ≡ true → has_current_key e.what ≡ true
ahead_current masters bytes e reads = by_what e.what e.ahead e.unused reads.1
  where
    by_token : (key : Denoted) (ahead : Bool) (unused : Option (List ℕ)) (token : List ℕ) → HasToken masters bytes e.label token key ahead unused → ahead ≡ true → not (is_old key.age) ≡ true
    by_token key false unused token body is = let wrong : false ≡ true = is in absurd (cc)
    by_token key true unused token body is = ap (λ a. not (is_old a)) body.0.current

    by_what : (w : Option Denoted) (ahead : Bool) (unused : Option (List ℕ)) → ReadsWhat masters bytes e.label w ahead unused → ahead ≡ true → has_current_key w ≡ true
    by_what None ahead unused reads is = let wrong : false ≡ true = sym reads.1 ∙ is in absurd (cc)
    by_what (Some key) ahead unused reads is = by_token key ahead unused reads.token reads.body is

pub and_true : (b : Bool) → (b && true) ≡ b
and_true true = refl
and_true false = refl

drop_test : (a b : Bool) → (a ≡ true → b ≡ true) → a ≡ (b && a)
drop_test true b holds = sym (ap (λ t. t && true) (holds refl))
drop_test false true holds = refl
drop_test false false holds = refl

-- whether an action changes a label, by its key and its mark
pub change_is : (a : StoreAction) (masters : MasterKeys) (bytes : List ℕ) (o : Option Entry) → ReadsEntry masters bytes o → is_changed a o ≡ (changes_key a (what_of o) && may_change a (is_ahead_entry o))
change_is Renew masters bytes None reads = refl
change_is Ahead masters bytes None reads = refl
change_is Drop masters bytes None reads = refl
change_is Renew masters bytes (Some e) reads = sym (and_true (has_old_key e.what))
change_is Ahead masters bytes (Some e) reads = refl
change_is Drop masters bytes (Some e) reads = drop_test e.ahead (has_current_key e.what) (ahead_current masters bytes e reads)

-- the mark that the memory has
pub mark_is : (masters : MasterKeys) (o : Option Entry) → is_ahead_row (remembered masters o) ≡ is_ahead_entry o
mark_is masters None = refl
mark_is masters (Some e) = by_ahead e.ahead
  where
    by_ahead : (b : Bool) → is_some (pattern_ahead masters b) ≡ b
    by_ahead true = refl
    by_ahead false = refl

-- ---- what is written of a label

-- what the tokens of an action make of a label whose key the token stands for
pub record IsMade (a : StoreAction) (masters : MasterKeys) (token : List ℕ) (tokens : Tokens) : Type 0 where
  pub key : Denoted
  pub stand : StandFor masters tokens key
  pub next : (e : Entry) → e.what ≡ denoted masters token
      → (cell : ℕ) (s : List (Option Entry)) → entry_at s cell ≡ Some e → put_in tokens cell key s ≡ set s cell (Some (made_by a e))

module _ (masters : MasterKeys) (token : List ℕ) where
  some_key : (o : Option Denoted) → has_current_key o ≡ true → (key : Denoted) × (o ≡ Some key)
  some_key None is = let wrong : false ≡ true = is in absurd (cc)
  some_key (Some key) is = (key, refl)

  old_one : (o : Option Denoted) → has_old_key o ≡ true → (key : Denoted) × (o ≡ Some key)
  old_one None is = let wrong : false ≡ true = is in absurd (cc)
  old_one (Some key) is = (key, refl)

  made_renew : (tokens : Tokens) → has_old_key (denoted masters token) ≡ true → AreMade Renew masters token tokens → IsMade Renew masters token tokens
  made_renew (One new) old made =
      let key = old_one (denoted masters token) old in
      let current : Denoted = record { clear = key.0.clear; age = Current } in
      record {
        key = current;
        stand = made.1 ∙ ap under_current key.1;
        next = λ e is cell s at. ap (set s cell) (ap (with_what current) at ∙ ap (λ w. Some (entry e.label w)) (ap under_current (sym (is ∙ key.1))));
      }
  made_renew (Two new second) old made = absurd made

  made_drop : (tokens : Tokens) → has_current_key (denoted masters token) ≡ true → AreMade Drop masters token tokens → IsMade Drop masters token tokens
  made_drop (One new) current made =
      let key = some_key (denoted masters token) current in
      record {
        key = key.0;
        stand = ap (denoted masters) made.1 ∙ key.1;
        next = λ e is cell s at. ap (set s cell) (ap (with_what key.0) at ∙ ap (λ w. Some (entry e.label w)) (sym (is ∙ key.1)));
      }
  made_drop (Two new second) current made = absurd made

  made_ahead : (tokens : Tokens) → AreMade Ahead masters token tokens → IsMade Ahead masters token tokens
  made_ahead (One new) made = absurd made
  made_ahead (Two new second) made =
      let clear : ClearKey = made.2.clear in
      record {
        key = record { clear = clear; age = Current };
        stand = subst (λ (t : List ℕ). AreBoth masters t second clear) (sym made.1) made.2.both;
        next = λ e is cell s at. ap (set s cell) (ap (with_both clear) at ∙ ap (λ w. Some (ahead_as e.label w)) (sym (is ∙ made.2.both.first)));
      }
    where
      ahead_as : List ℕ → Option Denoted → Entry
      ahead_as label what = record { label = label; what = what; ahead = true; unused = None }

  pub made_is : (a : StoreAction) (tokens : Tokens) → changes_key a (denoted masters token) ≡ true → AreMade a masters token tokens → IsMade a masters token tokens
  made_is Renew tokens changes made = made_renew tokens changes made
  made_is Ahead tokens changes made = made_ahead tokens made
  made_is Drop tokens changes made = made_drop tokens changes made

pub can_write : (masters : MasterKeys) (tokens : Tokens) (key : Denoted) → StandFor masters tokens key → CanBeWritten masters tokens
can_write masters (One token) key is = subst (λ (o : Option Denoted). IsSome o) (sym is) refl
can_write masters (Two token second) key both = (key.clear, both)

pub null_changes : (a : StoreAction) → changes_key a None ≡ false
null_changes Renew = refl
null_changes Ahead = refl
null_changes Drop = refl

pub no_label : (a : StoreAction) (o : Option Entry) → entry_label o ≡ None → is_changed a o ≡ false
no_label a None is = refl
no_label a (Some e) is = absurd (none_some e.label (sym is))

-- what is known of the label that is written
pub record IsTurn (a : StoreAction) (cell : ℕ) (s next : List (Option Entry)) : Type 0 where
  pub changed : IsChanged a s cell
  pub next_is : next ≡ changed_at a cell s

-- what the memory and the token say of the label of a cell
module _ (a : StoreAction) (masters : MasterKeys) (rows : List (Option Row)) (s : List (Option Entry)) (place : ℕ) (image : List ℕ) (keeps : KeepsLabels masters rows s image) (within : place < 1024) where
  row_at : get_or rows place None ≡ remembered masters (entry_at s place)
  row_at = ap (λ r. get_or r place None) keeps.agrees ∙ row_of_entry masters s place

  by_mark : is_changed a (entry_at s place) ≡ (changes_key a (what_of (entry_at s place)) && may_change a (is_ahead_row (get_or rows place None)))
  by_mark =
      change_is a masters (body image place) (entry_at s place) (keeps.stands.reads place within)
      ∙ ap (λ b. changes_key a (what_of (entry_at s place)) && may_change a b) (sym (ap is_ahead_row row_at ∙ mark_is masters (entry_at s place)))

  pub may_not : may_change a (is_ahead_row (get_or rows place None)) ≡ false → is_changed a (entry_at s place) ≡ false
  may_not is = by_mark ∙ ap (λ b. changes_key a (what_of (entry_at s place)) && b) is ∙ and_false (changes_key a (what_of (entry_at s place)))

  pub does_not : (what : Option Denoted) → what_of (entry_at s place) ≡ what → changes_key a what ≡ false → is_changed a (entry_at s place) ≡ false
  does_not what is none = by_mark ∙ ap (λ b. b && may_change a (is_ahead_row (get_or rows place None))) (ap (changes_key a) is ∙ none)

  pub is_turn : (token : List ℕ) (tokens : Tokens) (made : IsMade a masters token tokens) → ReadsToken masters (entry_at s place) true token → changes_key a (denoted masters token) ≡ true
      → may_change a (is_ahead_row (get_or rows place None)) ≡ true → IsTurn a place s (put_in tokens place made.key s)
  is_turn token tokens made read changes may = by_entry (entry_at s place) refl read
    where
      by_entry : (o : Option Entry) → entry_at s place ≡ o → ReadsToken masters o true token → IsTurn a place s (put_in tokens place made.key s)
      by_entry None at read = absurd read
      by_entry (Some e) at read =
          let what : e.what ≡ denoted masters token = reads_what masters (Some e) token read in
          let is : IsChanged a s place = by_mark ∙ ap (λ b. b && may_change a (is_ahead_row (get_or rows place None))) (ap (λ o. changes_key a (what_of o)) at ∙ ap (changes_key a) what ∙ changes) ∙ may in
          record {
            changed = is;
            next_is = made.next e what place s at ∙ ap (set s place) (ap (λ x. Some x) (sym (changed_is a e (sym (ap (is_changed a) at) ∙ is))) ∙ ap (changed_entry a) (sym at));
          }

-- ---- the directory

pub same_label : (rows : List (Option Row)) (place : ℕ) (row : Row) → IsSome (label_at (row_directory rows) place) → row.label ≡ label_or (get_or rows place None) → row_directory (set rows place (Some row)) ≡ row_directory rows
same_label rows place row held is =
    map-set row_label rows place (Some row)
    ∙ ap (λ l. set (row_directory rows) place (Some l)) is
    ∙ ap (set (row_directory rows) place) (labelled (get_or rows place None) (subst (λ (o : Option (List ℕ)). IsSome o) (label_of_row rows place) held) ∙ sym (label_of_row rows place))
    ∙ set-get_or (row_directory rows) place None
  where
    labelled : (r : Option Row) → IsSome (row_label r) → Some (label_or r) ≡ row_label r
    labelled None held = absurd (cc held)
    labelled (Some r) held = refl

-- ---- the registers stay loaded

kept_loaded : (m : Masters) (held : Registers) (old new : Lease) (bench : Bench) → new ≡ holding old bench → ArePlaced m bench → Loaded m held (bench_of old) → Loaded m held (bench_of new)
kept_loaded m held old new bench is placed loaded =
    subst (λ (l : Lease). Loaded m held (bench_of l)) (sym is) (record { valid = loaded.valid; placed = placed; told = loaded.told })

module _ (m : Masters) (held : Registers) (old new : Lease) (loaded : Loaded m held (bench_of old)) where
  pub loaded_body : KeepsAllButBody old new → Loaded m held (bench_of new)
  loaded_body keeps = kept_loaded m held old new (record (bench_of old) { body = (bench_of new).body }) keeps
      (record { coming = loaded.placed.coming; current = loaded.placed.current; former = loaded.placed.former }) loaded

  pub loaded_turn : ChangesKeyAndBody old new → Loaded m held (bench_of new)
  loaded_turn changes = kept_loaded m held old new
      (record (bench_of old) { key = (bench_of new).key; schedules = (bench_of new).schedules; body = (bench_of new).body }) changes
      (record { coming = loaded.placed.coming; current = loaded.placed.current; former = loaded.placed.former }) loaded

-- the body alone has changed: what is asked of the lease is still so
pub coming_body : (p : Pattern) (old new : Lease) → KeepsAllButBody old new → IsComing p (bench_of old) → IsComing p (bench_of new)
coming_body p old new keeps is = subst (λ (l : Lease). IsComing p (bench_of l)) (sym keeps) is

pub ready_body : (a : StoreAction) (held : Registers) (old new : Lease) → KeepsAllButBody old new → IsReadyFor a held (bench_of old) → IsReadyFor a held (bench_of new)
ready_body a held old new keeps ready =
    subst (λ (l : Lease). IsReadyFor a held (bench_of l)) (sym keeps) (λ is. let had = ready is in record { full = had.full; apart = had.apart })

-- ---- the store was read at most

pub turned_same : (a : StoreAction) (s : List (Option Entry)) (cell : ℕ) → is_changed a (entry_at s cell) ≡ false → changed_at a cell s ≡ s
turned_same a s cell is = ap (set s cell) (changed_same a (entry_at s cell) is) ∙ set-get_or s cell None

module _ (a : StoreAction) (masters : MasterKeys) (cell : ℕ) (s : List (Option Entry)) (m0 m1 : Medium) (rows : List (Option Row))
    (settled : IsSettled m0) (keeps : Keeps m0 m1) (told : Told m0 (KeepsLabels masters rows s)) where
  same_turn : (c : List ℕ) → m0.content ≡ Some c → HoldsTurn a masters cell s c c
  same_turn c is = record { size = refl; same = λ k untouched. refl; stands = inl (told_at m0.content (KeepsLabels masters rows s) c is told).stands }

  kept_either : Becomes (HoldsTurn a masters cell s) m0 m1
  kept_either = record {
    size = keeps.moments.size;
    told = λ c is. let was = sym keeps.content ∙ is in (c, was, same_turn c was);
    still = λ some. subst (λ (o : Option (List ℕ)). IsSome o) (sym keeps.content) some;
  }

  kept_moments : EachImage m0 m1 (From (HoldsTurn a masters cell s) m0)
  kept_moments = each_weaker m0 m1 m0.images (From (HoldsTurn a masters cell s) m0) keeps.moments
      (λ c image. (c, settled.only c image, same_turn c (settled.only c image)))

  -- a read failed
  pub changes_unread : (fault : RecordFault) → ChangesCell a masters cell s rows rows m0 m1 (Err fault)
  changes_unread fault = record { keeps = tt; other = tt; count = tt; kept = refl; either = kept_either; moments = kept_moments }

  pub changes_none : Told m0 (λ _. is_changed a (entry_at s cell) ≡ false) → ChangesCell a masters cell s rows rows m0 m1 (Ok false)
  changes_none stays = record {
    keeps = told_still m0 m1 (KeepsLabels masters rows (changed_at a cell s)) keeps
        (told_joined m0 (KeepsLabels masters rows s) (λ _. is_changed a (entry_at s cell) ≡ false) (KeepsLabels masters rows (changed_at a cell s)) told stays
        (λ c keeps is. subst (λ (t : List (Option Entry)). KeepsLabels masters rows t c) (sym (turned_same a s cell is)) keeps));
    other = record {
      size = keeps.moments.size;
      told = λ c is.
          let was = sym keeps.content ∙ is in
          (c, was, λ old. let wrong : false ≡ true = sym (told_at m0.content (λ _. is_changed a (entry_at s cell) ≡ false) c was stays) ∙ old in absurd (cc));
      still = kept_either.still;
    };
    count = told_map m0 (λ _. is_changed a (entry_at s cell) ≡ false) (λ _. false ≡ is_changed a (entry_at s cell)) stays (λ c is. sym is);
    kept = tt;
    either = kept_either;
    moments = kept_moments;
  }

-- ---- the store was read, and the cell written

module _ (a : StoreAction) (masters : MasterKeys) (cell : ℕ) (s next : List (Option Entry)) (m0 m1 m2 : Medium) (rows now : List (Option Row))
    (settled : IsSettled m0) (keeps : Keeps m0 m1) (told : Told m0 (KeepsLabels masters rows s))
    (turn : Told m0 (λ _. IsTurn a cell s next)) where
  turn_at : (c : List ℕ) → m0.content ≡ Some c → IsTurn a cell s next
  turn_at c is = told_at m0.content (λ _. IsTurn a cell s next) c is turn

  turned : (c d : List ℕ) → m0.content ≡ Some c → HoldsEither masters cell s next c d → HoldsTurn a masters cell s c d
  turned c d is holds = record {
    size = holds.outside.size;
    same = λ k untouched. holds.untouched k (untouched (turn_at c is).changed);
    stands = ⊎_elim (λ was. inl was) (λ after. inr (subst (StandsForLabels masters d) (turn_at c is).next_is after)) holds.stands;
  }

  from_start : (d : List ℕ) → From (HoldsEither masters cell s next) m1 d → From (HoldsTurn a masters cell s) m0 d
  from_start d from = let was = sym keeps.content ∙ from.1 in (from.0, was, turned from.0 d was from.2)

  still_turn : (d : List ℕ) → m0.images d → From (HoldsTurn a masters cell s) m0 d
  still_turn d image =
      let is = settled.only d image in
      (d, is, record { size = refl; same = λ k untouched. refl; stands = inl (told_at m0.content (KeepsLabels masters rows s) d is told).stands })

  written_either : Becomes (HoldsEither masters cell s next) m1 m2 → Becomes (HoldsTurn a masters cell s) m0 m2
  written_either either = record {
    size = either.size ∙ keeps.moments.size;
    told = λ d is. from_start d (either.told d is);
    still = λ some. either.still (subst (λ (o : Option (List ℕ)). IsSome o) (sym keeps.content) some);
  }

  written_moments : EachImage m1 m2 (From (HoldsEither masters cell s next) m1) → EachImage m0 m2 (From (HoldsTurn a masters cell s) m0)
  written_moments moments =
      goes_on m0 m1 m2 m0.images (From (HoldsEither masters cell s next) m1) (From (HoldsTurn a masters cell s) m0) keeps.moments moments still_turn from_start

  pub changes_failed : (fault : RecordFault) → now ≡ rows → ChangesLabels masters cell s next now m1 m2 (Err fault) → ChangesCell a masters cell s rows now m0 m2 (Err fault)
  changes_failed fault is changes = record { keeps = tt; other = tt; count = tt; kept = is; either = written_either changes.either; moments = written_moments changes.moments }

  pub changes_written : (bytes : List ℕ) → ReplacesBody cell bytes m1 m2 (Ok tt) → ChangesLabels masters cell s next now m1 m2 (Ok tt) → ChangesCell a masters cell s rows now m0 m2 (Ok true)
  changes_written bytes replaces changes = record {
    keeps = told_from m2.content (KeepsLabels masters now (changed_at a cell s)) (λ c is.
        let from = changes.either.told c is in
        subst (λ (t : List (Option Entry)). KeepsLabels masters now t c)
        (turn_at from.0 (sym keeps.content ∙ from.1)).next_is
        (told_at m2.content (KeepsLabels masters now next) c is changes.keeps));
    other = record {
      size = replaces.replaced.size ∙ keeps.moments.size;
      told = λ c is. let from = replaces.replaced.told c is in (from.0, sym keeps.content ∙ from.1, λ was. from.2.other);
      still = λ some. replaces.replaced.still (subst (λ (o : Option (List ℕ)). IsSome o) (sym keeps.content) some);
    };
    count = told_map m0 (λ _. IsTurn a cell s next) (λ _. true ≡ is_changed a (entry_at s cell)) turn (λ c t. sym t.changed);
    kept = tt;
    either = written_either changes.either;
    moments = written_moments changes.moments;
  }

-- the row that was put into the cell of a label
pub row_put : (rows : List (Option Row)) (place : ℕ) (row : Row) → IsSome (label_at (row_directory rows) place) → get_or (set rows place (Some row)) place None ≡ Some row
row_put rows place row held = get_or-set_same rows place (Some row) None (there rows place held)
  where
    there : (rows : List (Option Row)) (place : ℕ) → IsSome (label_at (row_directory rows) place) → place < length rows
    there [] place held = absurd (cc held)
    there (r ∷ rows) zero held = omega arith
    there (r ∷ rows) (suc n) held = let low : n < length rows = there rows n held in omega arith
