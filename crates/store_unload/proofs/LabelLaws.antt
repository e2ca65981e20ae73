-- What comes of a label, by what its record holds.
use Rattle.std.proofs.Common.{◌≡◌, ◌∙◌, ℕ, Bool, true, false, List, Option, None, Some, Result, Ok, Err, refl, sym, ap, subst, codes}
use Rattle.std.specs.Prelude.{if◌then◌else◌, is_some, IfErr, IsSome}
use Rattle.std.specs.Option.{option_map}
use Rattle.std.specs.Str.{bytes_eq}
use Rattle.cca_roles.proofs.DirectoryLaws.{held_nowhere}
use Rattle.cca_vectors.specs.Checks.{first_failing}
use Rattle.key_cells.specs.Bench.{Bench}
use Rattle.record_bodies.specs.Directory.{cell_of, label_at}
use Rattle.record_bodies.specs.Entries.{row_directory}
use Rattle.record_bodies.specs.StoreStands.{Agrees, KeepsLabels, entry_at}
use Rattle.key_records.specs.declared.faults.RecordFault.{RecordFault}
use Rattle.key_records.specs.declared.faults.RecordFault.TheVariants.{Damaged}
use Rattle.record_bodies.specs.declared.rows.Row.{Row}
use Rattle.record_bodies.proofs.OpeningLaws.{directory_remembered}
use Rattle.key_tokens.specs.Denotes.{ClearKey, Denoted, MasterKeys}
use Rattle.key_transport.specs.Tokens.{external_token}
use Rattle.line_service.specs.Replies.{two_digits}
use Rattle.device_cells.specs.Medium.{Medium, Told}
use Rattle.device_cells.proofs.Media.{told_at, told_from}
use Rattle.store_move.specs.Exports.{IsMoved, export_checks}
use Rattle.store_move.specs.Reading.{HoldsAsRead}
use Rattle.store_move.specs.declared.moving.Moved.{Moved}
use Rattle.store_move.specs.declared.moving.Moved.TheVariants.{Kept, Token}
use Rattle.verb_rules.specs.Keys.{keys_of, opened}
use Rattle.verb_rules.specs.Rules.{rule_number}
use Rattle.verb_rules.specs.declared.judging.Judged.{Judged}
use Rattle.verb_rules.specs.declared.rules.Rule.{Rule}
use Rattle.cca_machine.specs.Keys.{key_of_label, or_no_key, what_at, what_in}
use Rattle.cca_machine.specs.State.{State}
use Rattle.store_unload.specs.Moves.{clear_of, reason, remarks_by, remarks_on, requests_by, requests_for, token_of_label, with_newlines}
use Rattle.store_unload.specs.Telling.{Gets, GetsMoved, TellsAsRead, TellsLabel, requests_text}
use Rattle.command_words.specs.declared.moves.Move.{Move}
use Rattle.store_unload.specs.declared.writing.MoveFault.{MoveFault}
use Rattle.store_unload.specs.declared.writing.MoveFault.TheVariants.{ReportFault, Store, WriteFault}
use Rattle.store_unload.proofs.PieceLaws.{gets_none, got_nothing}

abbrev Ends : Type 0
Ends = Result (Unit {0}) MoveFault

-- ---- a label that is held is found

pub held_found : (label : List ℕ) (d : List (Option (List ℕ))) (place : ℕ) → label_at d place ≡ Some label → IsSome (cell_of label d)
held_found label d place held = by_cell (cell_of label d) refl
  where
    by_cell : (o : Option ℕ) → cell_of label d ≡ o → IsSome o
    by_cell None is = absurd (held_nowhere label d (ap (λ c. is_some c) is) place held)
    by_cell (Some cell) is = refl

-- the key of a label is that of the record at its place
label_key : (s : State) (rows : List (Option Row)) (label : List ℕ) (place : ℕ) → Agrees (keys_of s.registers) rows s.labels
    → cell_of label (row_directory rows) ≡ Some place → key_of_label s label ≡ what_in (entry_at s.labels place)
label_key s rows label place agrees found =
    ap (what_at s.labels) (ap (cell_of label) (sym (ap row_directory agrees ∙ directory_remembered (keys_of s.registers) s.labels)) ∙ found)

-- ---- no fault of a device is damage

sink_fault : (named : MoveFault) → ((cell : ℕ) → named ≡ Store (Damaged cell) → ⊥) → (result : Ends) → IfErr result (λ fault. fault ≡ named)
    → (cell : ℕ) → result ≡ Err (Store (Damaged cell)) → ⊥
sink_fault named differs (Ok done) fault cell is = cc
sink_fault named differs (Err f) fault cell is = differs cell (let same : f ≡ Store (Damaged cell) = cc in sym fault ∙ same)

-- ---- why a label is kept back, or that it isn't

module _ (s : State) (w : Move) (label : List ℕ) where
  abbrev TellsIt : Ends → Option (List ℕ) → Option (List ℕ) → Option (List ℕ) → Option (List ℕ) → Type 0
  TellsIt = TellsLabel (with_newlines (requests_for s w label)) (with_newlines (remarks_on s w label))

  by_target : (named : Bool) → bytes_eq label w.transport_there ≡ named
      → reason s w label ≡ (if named then Some (codes "target") else option_map two_digits (first_failing (export_checks (key_of_label s label))))
  by_target named is = ap (λ b. if b then Some (codes "target") else option_map two_digits (first_failing (export_checks (key_of_label s label)))) is

  kept_label : (why : List ℕ) (result : Ends) (f r0 r1 : Option (List ℕ)) → reason s w label ≡ Some why
      → Gets (with_newlines (remarks_by (Some why) label)) result r0 r1 → IfErr result (λ fault. fault ≡ ReportFault) → TellsIt result f f r0 r1
  kept_label why result f r0 r1 is gets fault =
      subst (λ (o : Option (List ℕ)). TellsLabel (with_newlines (requests_by o s w label)) (with_newlines (remarks_by o label)) result f f r0 r1) (sym is)
      (record { file = gets_none result f; report = gets; undamaged = sink_fault ReportFault (λ cell same. cc) result fault })

  moved_label : (token : List ℕ) (result : Ends) (f0 f1 r : Option (List ℕ)) → reason s w label ≡ None → token ≡ token_of_label s w label
      → Gets (requests_text w token label) result f0 f1 → IfErr result (λ fault. fault ≡ WriteFault) → TellsIt result f0 f1 r r
  moved_label token result f0 f1 r is token_is gets fault =
      subst (λ (o : Option (List ℕ)). TellsLabel (with_newlines (requests_by o s w label)) (with_newlines (remarks_by o label)) result f0 f1 r r) (sym is)
      (record {
        file = subst (λ (t : List ℕ). Gets (requests_text w t label) result f0 f1) token_is gets;
        report = gets_none result r;
        undamaged = sink_fault WriteFault (λ cell same. cc) result fault;
      })

  -- the label that is named there
  pub tells_target : (m : Medium) (result : Ends) (f r0 r1 : Option (List ℕ)) → bytes_eq label w.transport_there ≡ true
      → Gets (with_newlines (remarks_by (Some (codes "target")) label)) result r0 r1 → IfErr result (λ fault. fault ≡ ReportFault)
      → Told m (λ _. TellsIt result f f r0 r1)
  tells_target m result f r0 r1 named gets fault =
      told_from m.content (λ _. TellsIt result f f r0 r1) (λ image is. kept_label (codes "target") result f r0 r1 (by_target true named) gets fault)

  -- the store failed
  pub tells_failed : (m : Medium) (fault : RecordFault) (f r : Option (List ℕ))
      → ((cell : ℕ) → ◌≡◌ {A = Result Moved RecordFault} (Err fault) (Err (Damaged cell)) → Told m (λ _. ⊥))
      → Told m (λ _. TellsIt (Err (Store fault)) f f r r)
  tells_failed m fault f r damaged =
      told_from m.content (λ _. TellsIt (Err (Store fault)) f f r r) (λ image is. record {
        file = record { all = tt; part = got_nothing (with_newlines (requests_for s w label)) f };
        report = record { all = tt; part = got_nothing (with_newlines (remarks_on s w label)) r };
        undamaged = λ cell same. told_at m.content (λ _. ⊥) image is (damaged cell (inside fault (Damaged cell) same));
      })
    where
      inside : (a b : RecordFault) → ◌≡◌ {A = Ends} (Err (Store a)) (Err (Store b)) → ◌≡◌ {A = Result Moved RecordFault} (Err a) (Err b)
      inside a b same = cc

  -- ---- what the record holds

  module _ (rows : List (Option Row)) (place : ℕ) (bench : Bench) (transport : Judged) (m : Medium) (differs : bytes_eq label w.transport_there ≡ false)
      (found : cell_of label (row_directory rows) ≡ Some place) (told : Told m (KeepsLabels (keys_of s.registers) rows s.labels)) where
    abbrev Comes : Moved → Type 0
    Comes = IsMoved (opened bench transport).key (what_in (entry_at s.labels place))

    key_is : (image : List ℕ) → m.content ≡ Some image → key_of_label s label ≡ what_in (entry_at s.labels place)
    key_is image is = label_key s rows label place (told_at m.content (KeepsLabels (keys_of s.registers) rows s.labels) image is told).agrees found

    reason_is : (image : List ℕ) → m.content ≡ Some image → (broken : Option ℕ)
        → first_failing (export_checks (what_in (entry_at s.labels place))) ≡ broken → reason s w label ≡ option_map two_digits broken
    reason_is image is broken fails =
        by_target false differs
        ∙ ap (λ (o : Option Denoted). option_map two_digits (first_failing (export_checks o))) (key_is image is)
        ∙ ap (option_map two_digits) fails

    -- a rule keeps it back
    pub tells_kept : (moved : Moved) (rule : Rule) (why : List ℕ) (result : Ends) (f r0 r1 : Option (List ℕ)) → moved ≡ Kept rule → why ≡ two_digits (rule_number rule)
        → Told m (λ _. Comes moved)
        → Gets (with_newlines (remarks_by (Some why) label)) result r0 r1 → IfErr result (λ fault. fault ≡ ReportFault)
        → Told m (λ _. TellsIt result f f r0 r1)
    tells_kept moved rule why result f r0 r1 moved_is why_is kept gets fault =
        told_from m.content (λ _. TellsIt result f f r0 r1) (λ image is.
        kept_label why result f r0 r1
        (reason_is image is (Some (rule_number rule)) (subst Comes moved_is (told_at m.content (λ _. Comes moved) image is kept)) ∙ ap (λ (d : List ℕ). Some d) (sym why_is))
        gets fault)

    -- it is moved
    pub tells_moved : (moved : Moved) (token : List ℕ) (result : Ends) (f0 f1 r : Option (List ℕ)) → moved ≡ Token token → opened bench transport ≡ clear_of s w.transport
        → Told m (λ _. Comes moved)
        → Gets (requests_text w token label) result f0 f1 → IfErr result (λ fault. fault ≡ WriteFault)
        → Told m (λ _. TellsIt result f0 f1 r r)
    tells_moved moved token result f0 f1 r moved_is opens told_moved gets fault =
        told_from m.content (λ _. TellsIt result f0 f1 r r) (λ image is.
        let exported = subst Comes moved_is (told_at m.content (λ _. Comes moved) image is told_moved) in
        moved_label token result f0 f1 r (reason_is image is None exported.0)
        (exported.3
        ∙ ap (λ (k : ClearKey). external_token k.key exported.1.clear) opens
        ∙ ap (λ (o : Option Denoted). external_token (clear_of s w.transport).key (or_no_key o).clear) (sym (key_is image is ∙ exported.2)))
        gets fault)

-- ---- by what was read of its record

never_store : (named : MoveFault) → ((fault : RecordFault) → named ≡ Store fault → ⊥) → (result : Ends) → IfErr result (λ fault. fault ≡ named)
    → (fault : RecordFault) → result ≡ Err (Store fault) → ⊥
never_store named differs (Ok done) fault_is fault is = cc
never_store named differs (Err f) fault_is fault is = differs fault (let same : f ≡ Store fault = cc in sym fault_is ∙ same)

module _ (masters : MasterKeys) (w : Move) (label : List ℕ) (row : Option Row) (transport bytes : List ℕ) where
  abbrev Tells : Ends → Option (List ℕ) → Option (List ℕ) → Option (List ℕ) → Option (List ℕ) → Type 0
  Tells = TellsAsRead masters w label row transport bytes

  -- the label that is named there
  pub target_as_read : (result : Ends) (f r0 r1 : Option (List ℕ)) → bytes_eq label w.transport_there ≡ true → IfErr result (λ fault. fault ≡ ReportFault)
      → Gets (with_newlines (remarks_by (Some (codes "target")) label)) result r0 r1 → Tells result f f r0 r1
  target_as_read result f r0 r1 named fault gets = record {
    unsent = λ failed is. absurd (never_store ReportFault (λ other same. cc) result fault failed is);
    target = λ _. (gets_none result f, gets);
    read = λ differs unfailed. absurd (cc (sym named ∙ differs));
  }

  -- the store failed
  pub failed_as_read : (fault : RecordFault) (f r : Option (List ℕ)) → bytes_eq label w.transport_there ≡ false → Tells (Err (Store fault)) f f r r
  failed_as_read fault f r other = record {
    unsent = λ failed is. (refl, refl);
    target = λ named. absurd (cc (sym named ∙ other));
    read = λ differs unfailed. absurd (unfailed fault refl);
  }

  module _ (what : Option Denoted) (moved : Moved) (holds : HoldsAsRead masters row bytes what) (comes : IsMoved transport what moved)
      (other : bytes_eq label w.transport_there ≡ false) where
    at_label : (result : Ends) (f0 f1 r0 r1 : Option (List ℕ)) → ((fault : RecordFault) → result ≡ Err (Store fault) → ⊥)
        → GetsMoved w label moved result f0 f1 r0 r1 → Tells result f0 f1 r0 r1
    at_label result f0 f1 r0 r1 never gets = record {
      unsent = λ failed is. absurd (never failed is);
      target = λ named. absurd (cc (sym named ∙ other));
      read = λ differs unfailed. (what, moved, holds, comes, gets);
    }

    -- it is moved
    pub moved_as_read : (token : List ℕ) (result : Ends) (f0 f1 r : Option (List ℕ)) → moved ≡ Token token
        → Gets (requests_text w token label) result f0 f1 → IfErr result (λ fault. fault ≡ WriteFault) → Tells result f0 f1 r r
    moved_as_read token result f0 f1 r is gets fault =
        at_label result f0 f1 r r (never_store WriteFault (λ other same. cc) result fault)
        (subst (λ (m : Moved). GetsMoved w label m result f0 f1 r r) (sym is) (gets, gets_none result r))

    -- a rule keeps it back
    pub kept_as_read : (rule : Rule) (why : List ℕ) (result : Ends) (f r0 r1 : Option (List ℕ)) → moved ≡ Kept rule → why ≡ two_digits (rule_number rule)
        → Gets (with_newlines (remarks_by (Some why) label)) result r0 r1 → IfErr result (λ fault. fault ≡ ReportFault) → Tells result f f r0 r1
    kept_as_read rule why result f r0 r1 is why_is gets fault =
        at_label result f f r0 r1 (never_store ReportFault (λ other same. cc) result fault)
        (subst (λ (m : Moved). GetsMoved w label m result f f r0 r1) (sym is)
        (gets_none result f, subst (λ (d : List ℕ). Gets (with_newlines (remarks_by (Some d) label)) result r0 r1) why_is gets))
