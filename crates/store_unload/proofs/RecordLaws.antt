-- What file and report have of labels by what was read of their records, whatever the store tells.
use Rattle.std.proofs.Common.{◌≡◌, ◌≤◌, ◌<◌, ◌+◌, ℕ, Bool, true, false, List, [], ◌∷◌, ◌++◌, length, take, get_or, codes, Option, None, Some, Result, Ok, Err, ⊎_elim, refl, sym, ap, subst, ◌∙◌, append_assoc, arith}
use Rattle.std.specs.Prelude.{IsSome}
use Rattle.std.specs.List.{concat}
use Rattle.std.specs.Str.{bytes_eq}
use Rattle.std.proofs.Math.Seq.{get_or-append_seam, take-append_seam}
use Rattle.std.proofs.lemmas.Bool.{cases_lt}
use Rattle.std.proofs.lemmas.List.{append-nil, get_or_append_left, get_or_past, length-append, take_all}
use Rattle.std.proofs.lemmas.List.Folds.{concat-append}
use Rattle.device_cells.specs.WhereTold.{WhereTold}
use Rattle.device_cells.proofs.WhereToldLemmas.{told_same, told_then, told_weaker}
use Rattle.record_bodies.specs.Directory.{cell_of, held_count}
use Rattle.record_bodies.specs.Entries.{row_directory}
use Rattle.record_bodies.specs.Rank.{IsNth}
use Rattle.key_records.specs.declared.faults.RecordFault.{RecordFault}
use Rattle.record_bodies.specs.declared.rows.Row.{Row}
use Rattle.key_tokens.specs.Denotes.{Denoted, MasterKeys}
use Rattle.store_move.specs.Exports.{IsMoved}
use Rattle.store_move.specs.Reading.{HoldsAsRead}
use Rattle.store_move.specs.declared.moving.Moved.{Moved}
use Rattle.cca_machine.specs.Listing.{nth_label}
use Rattle.cca_machine.proofs.RankLemmas.{nth_is}
use Rattle.store_unload.specs.Moves.{remarks_by, with_newlines}
use Rattle.store_unload.specs.Telling.{Gets, GetsMoved, GotSome, TellsAsRead, file_of, report_of}
use Rattle.store_unload.specs.Writing.{AreParts, GotParts, GotPartsTo, IsPart, RestsOnRecords, SentTo}
use Rattle.command_words.specs.declared.moves.Move.{Move}
use Rattle.store_unload.specs.declared.writing.MoveFault.{MoveFault}
use Rattle.store_unload.specs.declared.writing.MoveFault.TheVariants.{ReportFault, Store, WriteFault}
use Rattle.store_unload.proofs.LabelLaws.{held_found}

abbrev Ends : Type 0
Ends = Result (Unit {0}) MoveFault

-- ---- one device, and the parts that it got

-- the first so many parts of a list with one more
module _ (parts : List (List ℕ)) (part : List ℕ) (count : ℕ) (long : length parts ≡ count) where
  abbrev more : List (List ℕ)
  more = parts ++ part ∷ []

  more_long : length more ≡ count + 1
  more_long = omega (arith, length-append parts (part ∷ []), long)

  part_before : (k : ℕ) → k < count → get_or more k [] ≡ get_or parts k []
  part_before k below = get_or_append_left parts (part ∷ []) [] k (omega (arith, below, long))

  part_at : get_or more count [] ≡ part
  part_at = ap (λ (n : ℕ). get_or more n []) (sym long) ∙ get_or-append_seam parts part [] []

  first_parts : take count more ≡ parts
  first_parts = ap (λ (n : ℕ). take n more) (sym long) ∙ take-append_seam parts (part ∷ [])

  joined_more : concat more ≡ concat parts ++ part
  joined_more = concat-append parts (part ∷ []) ∙ ap (λ bytes. concat parts ++ bytes) (append-nil part)

  module _ (a b : Option (List ℕ)) (before : WhereTold a b (λ x y. y ≡ x ++ concat parts)) where
    got_more : (c : Option (List ℕ)) → WhereTold b c (λ x y. y ≡ x ++ part) → WhereTold a c (λ x y. y ≡ x ++ concat more)
    got_more c all =
        told_then a b c (λ x y. y ≡ x ++ concat parts) (λ x y. y ≡ x ++ part) (λ x y. y ≡ x ++ concat more)
        (λ x y z one two.
        two ∙ ap (λ bytes. bytes ++ part) one ∙ append_assoc x (concat parts) part ∙ ap (λ bytes. x ++ bytes) (sym joined_more))
        before all

    got_some : (c : Option (List ℕ)) → WhereTold b c (λ x y. GotSome x y part) → WhereTold a c (SentTo count more)
    got_some c some =
        told_then a b c (λ x y. y ≡ x ++ concat parts) (λ x y. GotSome x y part) (SentTo count more)
        (λ x y z one two. record {
          sent = two.sent;
          missing = two.missing;
          next = part_at ∙ two.parts;
          held = two.held ∙ ap (λ bytes. bytes ++ two.sent) one ∙ append_assoc x (concat parts) two.sent
              ∙ ap (λ (ps : List (List ℕ)). x ++ (concat ps ++ two.sent)) (sym first_parts);
        })
        before some

-- behind the parts nothing was sent
got_these : (parts : List (List ℕ)) (count : ℕ) → length parts ≡ count → (a b : Option (List ℕ))
    → WhereTold a b (λ x y. y ≡ x ++ concat parts) → WhereTold a b (SentTo count parts)
got_these parts count long a b before =
    told_weaker a b (λ x y. y ≡ x ++ concat parts) (SentTo count parts)
    (λ x y is. record {
      sent = [];
      missing = [];
      next = get_or_past parts count [] (omega (arith, long));
      held = is ∙ ap (λ bytes. x ++ bytes) (sym (append-nil (concat parts)))
          ∙ ap (λ (ps : List (List ℕ)). x ++ (concat ps ++ [])) (sym (take_all count parts (omega (arith, long))));
    })
    before

-- ---- the part of a label

-- what a label adds, and that the devices got it
pub record OnePart (masters : MasterKeys) (w : Move) (rows : List (Option Row)) (transport label : List ℕ) (result : Ends) (f1 f2 r1 r2 : Option (List ℕ)) : Type 0 where
  pub file : List ℕ
  pub report : List ℕ
  pub part : IsPart masters w rows transport label file report
  pub file_gets : Gets file result f1 f2
  pub report_gets : Gets report result r1 r2

some_place : (o : Option ℕ) → IsSome o → (place : ℕ) × (o ≡ Some place)
some_place None is = absurd (cc is)
some_place (Some place) is = (place, refl)

module _ (masters : MasterKeys) (w : Move) (rows : List (Option Row)) (transport : List ℕ) where
  abbrev Part : List ℕ → List ℕ → List ℕ → Type 0
  Part = IsPart masters w rows transport

  -- ---- a label, by what was read of its record

  module _ (label bytes : List ℕ) (result : Ends) (f1 f2 r1 r2 : Option (List ℕ)) where
    abbrev Reads : ℕ → Type 0
    Reads place = TellsAsRead masters w label (get_or rows place None) transport bytes result f1 f2 r1 r2

    by_target : (place : ℕ) → cell_of label (row_directory rows) ≡ Some place → (named : Bool) → bytes_eq label w.transport_there ≡ named
        → ((fault : RecordFault) → result ≡ Err (Store fault) → ⊥) → Reads place → OnePart masters w rows transport label result f1 f2 r1 r2
    by_target place found true is never reads = record {
      file = [];
      report = with_newlines (remarks_by (Some (codes "target")) label);
      part = record { target = λ named. (refl, refl); read = λ other. absurd (cc (sym is ∙ other)) };
      file_gets = (reads.target is).0;
      report_gets = (reads.target is).1;
    }
    by_target place found false is never reads = of_read (reads.read is never)
      where
        of_read : (what : Option Denoted) × (moved : Moved) × HoldsAsRead masters (get_or rows place None) bytes what × IsMoved transport what moved
            × GetsMoved w label moved result f1 f2 r1 r2 → OnePart masters w rows transport label result f1 f2 r1 r2
        of_read (what, moved, holds, comes, gets) = record {
          file = file_of w label moved;
          report = report_of label moved;
          part = record { target = λ named. absurd (cc (sym is ∙ named)); read = λ other. (place, bytes, what, moved, found, holds, comes, refl, refl) };
          file_gets = gets.0;
          report_gets = gets.1;
        }

    module _ (index : ℕ) (nth : IsNth index (row_directory rows) label)
        (reads : (place : ℕ) → cell_of label (row_directory rows) ≡ Some place → Reads place) where
      place_of_it : (place : ℕ) × (cell_of label (row_directory rows) ≡ Some place)
      place_of_it = some_place (cell_of label (row_directory rows)) (held_found label (row_directory rows) nth.place nth.held)

      its_part : ((fault : RecordFault) → result ≡ Err (Store fault) → ⊥)
          → OnePart masters w rows transport (nth_label (row_directory rows) index) result f1 f2 r1 r2
      its_part never =
          subst (λ (l : List ℕ). OnePart masters w rows transport l result f1 f2 r1 r2) (sym (nth_is index (row_directory rows) label nth))
          (by_target place_of_it.0 place_of_it.1 (bytes_eq label w.transport_there) refl never (reads place_of_it.0 place_of_it.1))

  -- ---- the parts of some labels

  -- of none
  pub got_none : (f r : Option (List ℕ)) → GotParts masters w rows transport 0 f f r r
  got_none f r = record {
    files = [];
    reports = [];
    parts = record { file_count = refl; report_count = refl; each = λ k below. absurd (omega (arith, below)) };
    file = told_same f (λ x y. y ≡ x ++ []) (λ x. sym (append-nil x));
    report = told_same r (λ x y. y ≡ x ++ []) (λ x. sym (append-nil x));
  }

  module _ (count : ℕ) (files reports : List (List ℕ)) (parts : AreParts masters w rows transport count files reports) (file report : List ℕ)
      (part : Part (nth_label (row_directory rows) count) file report) where
    abbrev PartAt : ℕ → Type 0
    PartAt k = Part (nth_label (row_directory rows) k) (get_or (files ++ file ∷ []) k []) (get_or (reports ++ report ∷ []) k [])

    earlier : (k : ℕ) → k < count → PartAt k
    earlier k below =
        subst (λ (f : List ℕ). Part (nth_label (row_directory rows) k) f (get_or (reports ++ report ∷ []) k []))
        (sym (part_before files file count parts.file_count k below))
        (subst (λ (r : List ℕ). Part (nth_label (row_directory rows) k) (get_or files k []) r)
        (sym (part_before reports report count parts.report_count k below)) (parts.each k below))

    last : PartAt count
    last =
        subst (λ (f : List ℕ). Part (nth_label (row_directory rows) count) f (get_or (reports ++ report ∷ []) count []))
        (sym (part_at files file count parts.file_count))
        (subst (λ (r : List ℕ). Part (nth_label (row_directory rows) count) file r) (sym (part_at reports report count parts.report_count)) part)

    parts_more : AreParts masters w rows transport (count + 1) (files ++ file ∷ []) (reports ++ report ∷ [])
    parts_more = record {
      file_count = more_long files file count parts.file_count;
      report_count = more_long reports report count parts.report_count;
      each = λ k below.
          ⊎_elim (λ (before : k < count). earlier k before)
          (λ (past : count ≤ k). subst PartAt (let same : count ≡ k = omega (arith, past, below) in same) last) (cases_lt k count);
    }

  module _ (count : ℕ) (f0 f1 r0 r1 : Option (List ℕ)) (before : GotParts masters w rows transport count f0 f1 r0 r1)
      (label bytes : List ℕ) (nth : IsNth count (row_directory rows) label) (f2 r2 : Option (List ℕ)) where
    abbrev ReadsIt : Ends → Type 0
    ReadsIt result = (place : ℕ) → cell_of label (row_directory rows) ≡ Some place
        → TellsAsRead masters w label (get_or rows place None) transport bytes result f1 f2 r1 r2

    -- one label more
    pub read_more : ReadsIt (Ok tt) → GotParts masters w rows transport (count + 1) f0 f2 r0 r2
    read_more reads =
        let one = its_part label bytes (Ok tt) f1 f2 r1 r2 count nth reads (λ fault is. cc) in
        record {
          files = before.files ++ one.file ∷ [];
          reports = before.reports ++ one.report ∷ [];
          parts = parts_more count before.files before.reports before.parts one.file one.report one.part;
          file = got_more before.files one.file count before.parts.file_count f0 f1 before.file f2 one.file_gets.all;
          report = got_more before.reports one.report count before.parts.report_count r0 r1 before.report r2 one.report_gets.all;
        }

    -- the label at which a move ended, where a device failed
    in_part : (fault : MoveFault) → count < held_count (row_directory rows) → ((f : RecordFault) → ◌≡◌ {A = Ends} (Err fault) (Err (Store f)) → ⊥)
        → ReadsIt (Err fault) → GotPartsTo masters w rows transport f0 f2 r0 r2
    in_part fault below never reads =
        let one = its_part label bytes (Err fault) f1 f2 r1 r2 count nth reads never in
        record {
          known = count + 1;
          within = omega (arith, below);
          files = before.files ++ one.file ∷ [];
          reports = before.reports ++ one.report ∷ [];
          parts = parts_more count before.files before.reports before.parts one.file one.report one.part;
          count = count;
          file = got_some before.files one.file count before.parts.file_count f0 f1 before.file f2 one.file_gets.part;
          report = got_some before.reports one.report count before.parts.report_count r0 r1 before.report r2 one.report_gets.part;
        }

    -- and where the store failed
    before_it : count < held_count (row_directory rows) → f2 ≡ f1 → r2 ≡ r1 → GotPartsTo masters w rows transport f0 f2 r0 r2
    before_it below file_same report_same =
        subst (λ (o : Option (List ℕ)). GotPartsTo masters w rows transport f0 o r0 r2) (sym file_same)
        (subst (λ (o : Option (List ℕ)). GotPartsTo masters w rows transport f0 f1 r0 o) (sym report_same) (record {
          known = count;
          within = omega (arith, below);
          files = before.files;
          reports = before.reports;
          parts = before.parts;
          count = count;
          file = got_these before.files count before.parts.file_count f0 f1 before.file;
          report = got_these before.reports count before.parts.report_count r0 r1 before.report;
        }))

    ended : (fault : MoveFault) → count < held_count (row_directory rows) → ReadsIt (Err fault) → GotPartsTo masters w rows transport f0 f2 r0 r2
    ended WriteFault below reads = in_part WriteFault below (λ f is. cc) reads
    ended ReportFault below reads = in_part ReportFault below (λ f is. cc) reads
    ended (Store fault) below reads =
        let place = place_of_it label bytes (Err (Store fault)) f1 f2 r1 r2 count nth reads in
        let unsent = (reads place.0 place.1).unsent fault refl in
        before_it below unsent.0 unsent.1

    pub rests_to : (fault : MoveFault) → count < held_count (row_directory rows) → ReadsIt (Err fault)
        → RestsOnRecords masters w rows transport (Err fault) f0 f2 r0 r2
    rests_to fault below reads = record { done = tt; cut = ended fault below reads }

  -- all labels
  pub rests_all : (count : ℕ) (f0 f1 r0 r1 : Option (List ℕ)) → count ≡ held_count (row_directory rows) → GotParts masters w rows transport count f0 f1 r0 r1
      → RestsOnRecords masters w rows transport (Ok tt) f0 f1 r0 r1
  rests_all count f0 f1 r0 r1 all before =
      record { done = subst (λ (n : ℕ). GotParts masters w rows transport n f0 f1 r0 r1) all before; cut = tt }
