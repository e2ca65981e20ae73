-- What a change of one cell makes of the labels that a store stands for.
use Rattle.std.proofs.Common.{◌≡◌, ◌≢◌, ◌<◌, inl, inr, ⊎_elim, ℕ, List, length, get_or, set, map, Option, None, Some, Result, Ok, Err, true, false, refl, sym, ap, subst, ◌∙◌, arith}
use Rattle.std.specs.Prelude.{IfErr, OnOk, is_some}
use Rattle.std.proofs.lemmas.Bool.{cases_eq}
use Rattle.std.proofs.lemmas.List.{get_or-set_same, get_or-set_other, length-set, map-set}
use Rattle.key_cells.specs.declared.leases.Lease.{Lease}
use Rattle.device_cells.specs.Cells.{body, IsReplaced, IsReplacing}
use Rattle.device_cells.specs.Medium.{Medium, Told, IsSettled, From, Becomes}
use Rattle.device_cells.proofs.Media.{told_from, told_at, becomes_same, becomes_told, each_still, each_weaker}
use Rattle.device_cells.proofs.CellSteps.{replacing_same}
use Rattle.key_tokens.specs.Denotes.{ClearKey, MasterKeys, Denoted}
use Rattle.key_records.specs.Changes.{HoldsEither, ReplacesBody, ChangesLabels, ChangesRecord, KeepsAllButBody, RefusesLabel, Remembers}
use Rattle.record_bodies.specs.LabelChanges.{null_entry, created, written, with_what, ahead_entry, with_both, written_ahead}
use Rattle.record_bodies.specs.Directory.{AreApart, cell_of, label_at, free_cell}
use Rattle.record_bodies.specs.Entries.{Entry, entry, directory, entry_label, row_directory, row_label, remembered}
use Rattle.record_bodies.specs.RecordBody.{ReadsEntry, ReadsRow}
use Rattle.record_bodies.specs.StoreStands.{StandsForLabels, KeepsLabels, HoldsRows, Agrees, entry_at}
use Rattle.key_records.specs.declared.faults.RecordFault.{RecordFault}
use Rattle.key_records.specs.declared.faults.RecordFault.TheVariants.{DiskFault, Exists, Full}
use Rattle.record_bodies.specs.declared.rows.Row.{Row}
use Rattle.cca_roles.proofs.DirectoryLaws.{none_some}
use Rattle.record_bodies.proofs.OpeningLaws.{directory_remembered, label_remembered, label_of_entry}

module _ (masters : MasterKeys) (n : ℕ) (bytes : List ℕ) (slot : Option Entry) (s : List (Option Entry)) (within : n < 1024) (reads : ReadsEntry masters bytes slot) where
  -- one cell was replaced
  pub stands_set : (old new : List ℕ) → StandsForLabels masters old s → AreApart (directory (set s n slot)) → body new n ≡ bytes → ((m : ℕ) → m ≢ n → body new m ≡ body old m)
      → StandsForLabels masters new (set s n slot)
  stands_set old new stands apart here others = record {
    size = length-set s n slot ∙ stands.size;
    reads = λ m below. ⊎_elim
        (λ (is : m ≡ n). subst (λ (k : ℕ). ReadsEntry masters (body new k) (entry_at (set s n slot) k)) (sym is)
        (subst (λ (e : Option Entry). ReadsEntry masters (body new n) e) (sym (get_or-set_same s n slot None (omega (arith, stands.size))))
        (subst (λ (b : List ℕ). ReadsEntry masters b slot) (sym here) reads)))
        (λ (other : m ≡ n → ⊥). subst (λ (e : Option Entry). ReadsEntry masters (body new m) e) (sym (get_or-set_other s n m slot None other))
        (subst (λ (b : List ℕ). ReadsEntry masters b (entry_at s m)) (sym (others m other)) (stands.reads m below)))
        (cases_eq m n);
    apart = apart;
  }

  -- the cell still selects what it did
  pub stands_still : (old new : List ℕ) → StandsForLabels masters old s → body new n ≡ body old n → ((m : ℕ) → m ≢ n → body new m ≡ body old m) → StandsForLabels masters new s
  stands_still old new stands here others = record {
    size = stands.size;
    reads = λ m below. subst (λ (b : List ℕ). ReadsEntry masters b (entry_at s m))
        (sym (⊎_elim (λ (is : m ≡ n). ap (body new) is ∙ here ∙ ap (body old) (sym is)) (λ (other : m ≡ n → ⊥). others m other) (cases_eq m n))) (stands.reads m below);
    apart = stands.apart;
  }

-- ---- and the memory knows it

pub agrees_set : (masters : MasterKeys) (rows : List (Option Row)) (s : List (Option Entry)) (n : ℕ) (entry : Option Entry) → Agrees masters rows s → Agrees masters (set rows n (remembered masters entry)) (set s n entry)
agrees_set masters rows s n entry agrees = ap (λ r. set r n (remembered masters entry)) agrees ∙ sym (map-set (remembered masters) s n entry)

pub same_directory : (masters : MasterKeys) (rows : List (Option Row)) (s : List (Option Entry)) → Agrees masters rows s → directory s ≡ row_directory rows
same_directory masters rows s agrees = sym (ap row_directory agrees ∙ directory_remembered masters s)

-- what is known where a call answers Ok
pub ok_both : {P Q R : Type 0} (result : Result (Unit {0}) RecordFault) → (P → Q → R) → OnOk result P → OnOk result Q → OnOk result R
ok_both (Ok x) both first second = both first second
ok_both (Err e) both first second = tt

-- the entry of a cell becomes another one
module _ (masters : MasterKeys) (n : ℕ) (bytes : List ℕ) (entry : Option Entry) (rows : List (Option Row)) (row : Option Row) (s next : List (Option Entry)) (within : n < 1024)
    (reads : ReadsEntry masters bytes entry) (row_is : row ≡ remembered masters entry) (apart : AreApart (set (row_directory rows) n (row_label row)))
    (next_is : Agrees masters rows s → next ≡ set s n entry) where
  next_apart : Agrees masters rows s → AreApart (directory (set s n entry))
  next_apart agrees = subst AreApart
      (ap (λ d. set d n (row_label row)) (sym (same_directory masters rows s agrees))
      ∙ ap (set (directory s) n) (ap row_label row_is ∙ label_remembered masters entry)
      ∙ sym (map-set entry_label s n entry)) apart

  put_set : (old new : List ℕ) → KeepsLabels masters rows s old → body new n ≡ bytes → ((m : ℕ) → m ≢ n → body new m ≡ body old m) → StandsForLabels masters new next
  put_set old new keeps here others = subst (StandsForLabels masters new) (sym (next_is keeps.agrees))
      (stands_set masters n bytes entry s within reads old new keeps.stands (next_apart keeps.agrees) here others)

  put_either : (old new : List ℕ) → KeepsLabels masters rows s old → IsReplacing n bytes old new → HoldsEither masters n s next old new
  put_either old new keeps replacing = record {
    outside = replacing.outside;
    others = replacing.others;
    untouched = replacing.untouched;
    stands = ⊎_elim
        (λ was. inl (stands_still masters n bytes entry s within reads old new keeps.stands was replacing.others))
        (λ here. inr (put_set old new keeps here replacing.others)) replacing.here;
  }

  put_kept : (old new : List ℕ) → KeepsLabels masters rows s old → IsReplaced n bytes old new → KeepsLabels masters (set rows n row) next new
  put_kept old new keeps replaced = record {
    stands = put_set old new keeps replaced.here replaced.others;
    agrees = ap (set rows n) row_is ∙ agrees_set masters rows s n entry keeps.agrees ∙ ap (map (remembered masters)) (sym (next_is keeps.agrees));
  }

  -- over a disk
  module _ (m0 m1 : Medium) (start : Told m0 (KeepsLabels masters rows s)) where
    told_kept : Becomes (IsReplaced n bytes) m0 m1 → Told m1 (KeepsLabels masters (set rows n row) next)
    told_kept becomes = becomes_told m0 m1 (IsReplaced n bytes) (KeepsLabels masters rows s) (KeepsLabels masters (set rows n row) next) becomes start put_kept

    put_from : (c : List ℕ) → From (IsReplacing n bytes) m0 c → From (HoldsEither masters n s next) m0 c
    put_from c from = (from.0, from.1, put_either from.0 c (told_at m0.content (KeepsLabels masters rows s) from.0 from.1 start) from.2)

    pub labels_changed : (result : Result (Unit {0}) RecordFault) (now : List (Option Row)) → ReplacesBody n bytes m0 m1 result → OnOk result (now ≡ set rows n row) → ChangesLabels masters n s next now m0 m1 result
    labels_changed result now replaces known = record {
      keeps = ok_both result (λ becomes is. subst (λ (r : List (Option Row)). Told m1 (KeepsLabels masters r next)) (sym is) (told_kept becomes)) replaces.replaced known;
      either = record { size = replaces.replacing.size; told = λ c is. put_from c (replaces.replacing.told c is); still = replaces.replacing.still };
      moments = each_weaker m0 m1 (From (IsReplacing n bytes) m0) (From (HoldsEither masters n s next) m0) replaces.moments put_from;
    }

-- the row of a cell becomes another one
module _ (n : ℕ) (bytes : List ℕ) (row : Option Row) (rows : List (Option Row)) (within : n < 1024) (size : length rows ≡ 1024) (reads : ReadsRow bytes row) where
  rows_put : (old new : List ℕ) → HoldsRows rows old → IsReplaced n bytes old new → HoldsRows (set rows n row) new
  rows_put old new holds replaced = record {
    reads = λ m below. ⊎_elim
        (λ (is : m ≡ n). subst (λ (k : ℕ). ReadsRow (body new k) (get_or (set rows n row) k None)) (sym is)
        (subst (λ (r : Option Row). ReadsRow (body new n) r) (sym (get_or-set_same rows n row None (omega (arith, size, within))))
        (subst (λ (b : List ℕ). ReadsRow b row) (sym replaced.here) reads)))
        (λ (other : m ≡ n → ⊥). subst (λ (r : Option Row). ReadsRow (body new m) r) (sym (get_or-set_other rows n m row None other))
        (subst (λ (b : List ℕ). ReadsRow b (get_or rows m None)) (sym (replaced.others m other)) (holds.reads m below)))
        (cases_eq m n);
  }

  pub rows_changed : (m0 m1 : Medium) → Told m0 (HoldsRows rows) → Becomes (IsReplaced n bytes) m0 m1 → Told m1 (HoldsRows (set rows n row))
  rows_changed m0 m1 start becomes = becomes_told m0 m1 (IsReplaced n bytes) (HoldsRows rows) (HoldsRows (set rows n row)) becomes start rows_put

-- ---- the three changes

-- a label that no row has is put into the free cell
pub created_is : (masters : MasterKeys) (rows : List (Option Row)) (s : List (Option Entry)) (label : List ℕ) (cell : ℕ) → cell ≡ free_cell (row_directory rows) → Agrees masters rows s → created label s ≡ set s cell (Some (null_entry label))
created_is masters rows s label cell free agrees = ap (λ (c : ℕ). set s c (Some (null_entry label))) (ap free_cell (same_directory masters rows s agrees) ∙ sym free)

pub written_is : (masters : MasterKeys) (rows : List (Option Row)) (s : List (Option Entry)) (label : List ℕ) (cell : ℕ) (key : Denoted) → label_at (row_directory rows) cell ≡ Some label → Agrees masters rows s → written cell key s ≡ set s cell (Some (entry label (Some key)))
written_is masters rows s label cell key held agrees = ap (set s cell) (with_label (entry_at s cell) (sym (label_of_entry s cell) ∙ ap (λ d. label_at d cell) (same_directory masters rows s agrees) ∙ held))
  where
    with_label : (o : Option Entry) → entry_label o ≡ Some label → with_what key o ≡ Some (entry label (Some key))
    with_label None is = absurd (none_some label is)
    with_label (Some e) is = let same : e.label ≡ label = cc is in ap (λ l. Some (entry l (Some key))) same

pub written_ahead_is : (masters : MasterKeys) (rows : List (Option Row)) (s : List (Option Entry)) (label : List ℕ) (cell : ℕ) (clear : ClearKey) → label_at (row_directory rows) cell ≡ Some label → Agrees masters rows s → written_ahead cell clear s ≡ set s cell (Some (ahead_entry label clear))
written_ahead_is masters rows s label cell clear held agrees = ap (set s cell) (with_label (entry_at s cell) (sym (label_of_entry s cell) ∙ ap (λ d. label_at d cell) (same_directory masters rows s agrees) ∙ held))
  where
    with_label : (o : Option Entry) → entry_label o ≡ Some label → with_both clear o ≡ Some (ahead_entry label clear)
    with_label None is = absurd (none_some label is)
    with_label (Some e) is = let same : e.label ≡ label = cc is in ap (λ l. Some (ahead_entry l clear)) same

-- ---- what a disk tells

-- what holds of every image is told of any disk
pub told_all : (m : Medium) (P : List ℕ → Type 0) → ((c : List ℕ) → P c) → Told m P
told_all m P all = told_from m.content P (λ c is. all c)

-- the same change of the same cell
pub replaces_is : (m0 m1 : Medium) (result : Result (Unit {0}) RecordFault) (n k : ℕ) (a b : List ℕ) → n ≡ k → a ≡ b → ReplacesBody n a m0 m1 result → ReplacesBody k b m0 m1 result
replaces_is m0 m1 result n k a b cells bodies replaces =
    subst (λ (c : ℕ). ReplacesBody c b m0 m1 result) cells (subst (λ (x : List ℕ). ReplacesBody n x m0 m1 result) bodies replaces)

-- and of the record in it, from a lease whose body alone has changed
pub changed_as : {D : Type 0} (medium : D → Medium) (faults : D → ℕ) (n k : ℕ) (a b : List ℕ) (row next : Option Row) (rows now : List (Option Row)) (lease later : Lease) (old new : D) (result : Result (Unit {0}) RecordFault)
    → n ≡ k → a ≡ b → row ≡ next → KeepsAllButBody lease later → ChangesRecord medium faults n a row rows now later later old new result → ChangesRecord medium faults k b next rows now lease later old new result
changed_as medium faults n k a b row next rows now lease later old new result cells bodies rows_are rest changes = record {
  cell = replaces_is (medium old) (medium new) result n k a b cells bodies changes.cell;
  memory = subst (λ (r : List (Option Row)). Remembers rows r now result) (ap (λ c. set rows c row) cells ∙ ap (set rows k) rows_are) changes.memory;
  holds = changes.holds;
  rest = rest;
  cause = changes.cause;
}

-- ---- a label that is refused

-- no device is called
pub refused_record : {D : Type 0} (medium : D → Medium) (faults : D → ℕ) (place : ℕ) (bytes : List ℕ) (row : Option Row) (rows : List (Option Row)) (lease : Lease) (store : D) (fault : RecordFault) → IsSettled (medium store) → (fault ≡ DiskFault → ⊥)
    → ChangesRecord medium faults place bytes row rows rows lease lease store store (Err fault)
refused_record medium faults place bytes row rows lease store fault settled other = record {
  cell = record {
    settled = tt;
    replaced = tt;
    replacing = becomes_same (medium store) (medium store) (IsReplacing place bytes) refl refl (λ c. replacing_same place bytes c);
    moments = each_weaker (medium store) (medium store) (medium store).images (From (IsReplacing place bytes) (medium store)) (each_still (medium store)) (λ c image. (c, settled.only c image, replacing_same place bytes c));
  };
  memory = record { done = tt; kept = refl };
  holds = tt;
  rest = refl;
  cause = record { later = omega arith; failed = λ is. absurd (other (cc is)); quiet = λ _. refl };
}

pub refused_labels : (masters : MasterKeys) (place : ℕ) (s next : List (Option Entry)) (rows : List (Option Row)) (m : Medium) (fault : RecordFault) → IsSettled m → Told m (KeepsLabels masters rows s)
    → ChangesLabels masters place s next rows m m (Err fault)
refused_labels masters place s next rows m fault settled start = record {
  keeps = tt;
  either = record { size = refl; told = λ c is. (c, is, either_none c (told_at m.content (KeepsLabels masters rows s) c is start)); still = λ some. some };
  moments = each_weaker m m m.images (From (HoldsEither masters place s next) m) (each_still m)
      (λ c image. (c, settled.only c image, either_none c (told_at m.content (KeepsLabels masters rows s) c (settled.only c image) start)));
}
  where
    either_none : (c : List ℕ) → KeepsLabels masters rows s c → HoldsEither masters place s next c c
    either_none c keeps = record { outside = record { size = refl; before = λ k below. refl; after = λ k above. refl }; others = λ n other. refl; untouched = λ k is. refl; stands = inl keeps.stands }

free_isnt : (held : List (Option (List ℕ))) (cell : ℕ) → cell ≡ free_cell held → cell < 1024 → free_cell held ≡ 1024 → ⊥
free_isnt held cell is within full = omega arith

found_some : (found : Option ℕ) → is_some found ≡ true → found ≡ None → ⊥
found_some found some none = let wrong : true ≡ false = sym some ∙ ap (λ o. is_some o) none in absurd (cc)

found_none : (found : Option ℕ) → is_some found ≡ false → found ≡ None
found_none None none = refl
found_none (Some k) none = let wrong : true ≡ false = none in absurd (cc)

module _ {D : Type 0} (held : List (Option (List ℕ))) (label : List ℕ) where
  pub refuses_full : (lease : Lease) (store : D) → free_cell held ≡ 1024 → RefusesLabel held label lease lease store store (Err Full)
  refuses_full lease store full = record {
    full = (λ _. full, λ _. refl);
    exists = (λ is. absurd (cc is), λ both. absurd (both.0 full));
    undamaged = λ n is. absurd (cc is);
    untouched = λ _. refl;
    lease_untouched = λ _. refl;
  }

  pub refuses_held : (lease : Lease) (store : D) (cell : ℕ) (found : Option ℕ) → cell ≡ free_cell held → cell < 1024 → is_some found ≡ true → found ≡ cell_of label held → RefusesLabel held label lease lease store store (Err Exists)
  refuses_held lease store cell found free within some is = record {
    full = (λ same. absurd (cc same), λ full. absurd (free_isnt held cell free within full));
    exists = (λ _. (free_isnt held cell free within, λ none. found_some found some (is ∙ none)), λ _. refl);
    undamaged = λ n same. absurd (cc same);
    untouched = λ _. refl;
    lease_untouched = λ _. refl;
  }

  pub refuses_none : (lease later : Lease) (old new : D) (cell : ℕ) (found : Option ℕ) (result : Result (Unit {0}) RecordFault) → cell ≡ free_cell held → cell < 1024 → is_some found ≡ false → found ≡ cell_of label held
      → IfErr result (λ fault. fault ≡ DiskFault) → RefusesLabel held label lease later old new result
  refuses_none lease later old new cell found (Ok x) free within none is fault = record {
    full = (λ same. absurd (cc same), λ full. absurd (free_isnt held cell free within full));
    exists = (λ same. absurd (cc same), λ both. absurd (both.1 (sym is ∙ found_none found none)));
    undamaged = tt;
    untouched = λ same. absurd (⊎_elim (λ one. cc one) (λ one. cc one) same);
    lease_untouched = λ same. absurd (⊎_elim (λ one. cc one) (λ one. cc one) same);
  }
  refuses_none lease later old new cell found (Err e) free within none is fault = record {
    full = (λ same. absurd (cc (same, fault)), λ full. absurd (free_isnt held cell free within full));
    exists = (λ same. absurd (cc (same, fault)), λ both. absurd (both.1 (sym is ∙ found_none found none)));
    undamaged = λ n same. absurd (cc (same, fault));
    untouched = λ same. absurd (⊎_elim (λ one. cc (one, fault)) (λ one. cc (one, fault)) same);
    lease_untouched = λ same. absurd (⊎_elim (λ one. cc (one, fault)) (λ one. cc (one, fault)) same);
  }
