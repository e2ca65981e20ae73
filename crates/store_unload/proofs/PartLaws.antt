-- The parts of the file and of the report, label after label.
use Rattle.std.proofs.Common.{◌≡◌, ◌≤◌, ◌<◌, ◌+◌, ℕ, List, [], ◌∷◌, ◌++◌, length, take, get_or, map, Option, Some, Result, Ok, Err, sym, ap, subst, ◌∙◌, append_assoc, arith}
use Rattle.std.specs.List.{concat}
use Rattle.std.proofs.lemmas.List.{append-nil, get_or-map, length-map, take_all, take_more}
use Rattle.std.proofs.lemmas.List.Folds.{concat-append}
use Rattle.std.proofs.lemmas.List.FromFn.{get_or-map-range_with_len, length-map-range_with_len}
use Rattle.device_cells.specs.Medium.{Medium, Told}
use Rattle.device_cells.specs.WhereTold.{WhereTold}
use Rattle.device_cells.proofs.Media.{told_at, told_from}
use Rattle.device_cells.proofs.WhereToldLemmas.{told_then, told_weaker}
use Rattle.record_bodies.specs.Directory.{held_count}
use Rattle.record_bodies.specs.Entries.{directory, row_directory}
use Rattle.record_bodies.specs.Rank.{IsNth}
use Rattle.record_bodies.specs.StoreStands.{Agrees, KeepsLabels}
use Rattle.record_bodies.specs.declared.rows.Row.{Row}
use Rattle.record_bodies.proofs.OpeningLaws.{directory_remembered}
use Rattle.verb_rules.specs.Keys.{keys_of}
use Rattle.cca_machine.specs.Listing.{ascending, nth_label}
use Rattle.cca_machine.specs.State.{State}
use Rattle.cca_machine.proofs.RankLemmas.{nth_is}
use Rattle.store_unload.specs.Moves.{file_parts, remarks_on, report_parts, requests_for, with_newlines}
use Rattle.store_unload.specs.Telling.{GotSome, TellsLabel}
use Rattle.store_unload.specs.Writing.{SentTo, Tells}
use Rattle.command_words.specs.declared.moves.Move.{Move}
use Rattle.store_unload.specs.declared.writing.MoveFault.{MoveFault}

-- ---- what a device has of some parts

-- the first so many parts
abbrev pub HasParts : ℕ → List (List ℕ) → Option (List ℕ) → Option (List ℕ) → Type 0
HasParts count parts before now = WhereTold before now (λ x y. y ≡ x ++ concat (take count parts))

has_all : (parts : List (List ℕ)) (count : ℕ) (a b : Option (List ℕ)) → length parts ≤ count → HasParts count parts a b → WhereTold a b (λ x y. y ≡ x ++ concat parts)
has_all parts count a b all =
    told_weaker a b (λ x y. y ≡ x ++ concat (take count parts)) (λ x y. y ≡ x ++ concat parts) (λ x y has. has ∙ ap (λ ps. x ++ concat ps) (take_all count parts all))

module _ (parts : List (List ℕ)) (count : ℕ) (part : List ℕ) (is : get_or parts count [] ≡ part) (a b c : Option (List ℕ)) (before : HasParts count parts a b) where
  one_more : count < length parts → concat (take (count + 1) parts) ≡ concat (take count parts) ++ part
  one_more below =
      ap concat (take_more parts count [] below) ∙ concat-append (take count parts) (get_or parts count [] ∷ [])
      ∙ ap (λ bytes. concat (take count parts) ++ bytes) (append-nil (get_or parts count []) ∙ is)

  has_more : count < length parts → WhereTold b c (λ x y. y ≡ x ++ part) → HasParts (count + 1) parts a c
  has_more below all =
      told_then a b c (λ x y. y ≡ x ++ concat (take count parts)) (λ x y. y ≡ x ++ part) (λ x y. y ≡ x ++ concat (take (count + 1) parts))
      (λ x y z first second.
      second ∙ ap (λ bytes. bytes ++ part) first ∙ append_assoc x (concat (take count parts)) part ∙ ap (λ bytes. x ++ bytes) (sym (one_more below)))
      before all

  has_part : WhereTold b c (λ x y. GotSome x y part) → WhereTold a c (SentTo count parts)
  has_part some =
      told_then a b c (λ x y. y ≡ x ++ concat (take count parts)) (λ x y. GotSome x y part) (SentTo count parts)
      (λ x y z first second. record {
        sent = second.sent;
        missing = second.missing;
        next = is ∙ second.parts;
        held = second.held ∙ ap (λ bytes. bytes ++ second.sent) first ∙ append_assoc x (concat (take count parts)) second.sent;
      })
      before some

-- ---- the parts of the labels, in ascending order

module _ (d : List (Option (List ℕ))) (of : List ℕ → List ℕ) where
  parts_count : length (map of (ascending d)) ≡ held_count d
  parts_count = length-map (ascending d) of ∙ length-map-range_with_len (nth_label d) 0 (held_count d)

  part_is : (index : ℕ) (label : List ℕ) → index < held_count d → IsNth index d label → get_or (map of (ascending d)) index [] ≡ of label
  part_is index label below nth =
      get_or-map of (ascending d) index [] [] (omega (arith, below, length-map-range_with_len (nth_label d) 0 (held_count d)))
      ∙ ap of (get_or-map-range_with_len (nth_label d) 0 (held_count d) index index [] below (omega arith) ∙ nth_is index d label nth)

-- the memory knows the labels of the state
known : (s : State) (rows : List (Option Row)) → Agrees (keys_of s.registers) rows s.labels → row_directory rows ≡ directory s.labels
known s rows agrees = ap row_directory agrees ∙ directory_remembered (keys_of s.registers) s.labels

-- what the first so many labels add to file and report
pub record HasTold (s : State) (w : Move) (count : ℕ) (file0 file1 report0 report1 : Option (List ℕ)) : Type 0 where
  pub file : HasParts count (file_parts s w) file0 file1
  pub report : HasParts count (report_parts s w) report0 report1

module _ (s : State) (w : Move) (m : Medium) (f0 r0 : Option (List ℕ)) where
  module _ (rows : List (Option Row)) (stands : Told m (KeepsLabels (keys_of s.registers) rows s.labels)) (count : ℕ) (f1 r1 : Option (List ℕ)) (before : Told m (λ _. HasTold s w count f0 f1 r0 r1)) where
    known_at : (image : List ℕ) → m.content ≡ Some image → row_directory rows ≡ directory s.labels
    known_at image is = known s rows (told_at m.content (KeepsLabels (keys_of s.registers) rows s.labels) image is stands).agrees

    -- of all labels
    pub told_all : held_count (row_directory rows) ≤ count → Told m (λ _. Tells s w (Ok tt) f0 f1 r0 r1)
    told_all all =
        told_from m.content (λ _. Tells s w (Ok tt) f0 f1 r0 r1) (λ image is.
        let has = told_at m.content (λ _. HasTold s w count f0 f1 r0 r1) image is before in
        let same : held_count (row_directory rows) ≡ held_count (directory s.labels) = ap held_count (known_at image is) in
        record {
          done = record {
            file = has_all (file_parts s w) count f0 f1 (omega (arith, all, same, parts_count (directory s.labels) (λ label. with_newlines (requests_for s w label)))) has.file;
            report = has_all (report_parts s w) count r0 r1 (omega (arith, all, same, parts_count (directory s.labels) (λ label. with_newlines (remarks_on s w label)))) has.report;
          };
          cut = tt;
          undamaged = λ cell wrong. cc;
        })

    module _ (label : List ℕ) (below : count < held_count (row_directory rows)) (nth : IsNth count (row_directory rows) label) (f2 r2 : Option (List ℕ)) where
      abbrev TellsIt : Result (Unit {0}) MoveFault → Type 0
      TellsIt result = TellsLabel (with_newlines (requests_for s w label)) (with_newlines (remarks_on s w label)) result f1 f2 r1 r2

      module _ (image : List ℕ) (is : m.content ≡ Some image) where
        below_is : count < held_count (directory s.labels)
        below_is = subst (λ d. count < held_count d) (known_at image is) below

        nth_at : IsNth count (directory s.labels) label
        nth_at = subst (λ d. IsNth count d label) (known_at image is) nth

        request_part : get_or (file_parts s w) count [] ≡ with_newlines (requests_for s w label)
        request_part = part_is (directory s.labels) (λ l. with_newlines (requests_for s w l)) count label below_is nth_at

        remark_part : get_or (report_parts s w) count [] ≡ with_newlines (remarks_on s w label)
        remark_part = part_is (directory s.labels) (λ l. with_newlines (remarks_on s w l)) count label below_is nth_at

      -- one label more
      pub told_more : (m1 : Medium) → m1.content ≡ m.content → Told m1 (λ _. TellsIt (Ok tt)) → Told m (λ _. HasTold s w (count + 1) f0 f2 r0 r2)
      told_more m1 same tells =
          told_from m.content (λ _. HasTold s w (count + 1) f0 f2 r0 r2) (λ image is.
          let has = told_at m.content (λ _. HasTold s w count f0 f1 r0 r1) image is before in
          let told = told_at m1.content (λ _. TellsIt (Ok tt)) image (same ∙ is) tells in
          record {
            file = has_more (file_parts s w) count (with_newlines (requests_for s w label)) (request_part image is) f0 f1 f2 has.file
                (omega (arith, below_is image is, parts_count (directory s.labels) (λ l. with_newlines (requests_for s w l)))) told.file.all;
            report = has_more (report_parts s w) count (with_newlines (remarks_on s w label)) (remark_part image is) r0 r1 r2 has.report
                (omega (arith, below_is image is, parts_count (directory s.labels) (λ l. with_newlines (remarks_on s w l)))) told.report.all;
          })

      -- the label at which a move ends
      pub told_to : (fault : MoveFault) (m1 : Medium) → m1.content ≡ m.content → Told m1 (λ _. TellsIt (Err fault)) → Told m (λ _. Tells s w (Err fault) f0 f2 r0 r2)
      told_to fault m1 same tells =
          told_from m.content (λ _. Tells s w (Err fault) f0 f2 r0 r2) (λ image is.
          let has = told_at m.content (λ _. HasTold s w count f0 f1 r0 r1) image is before in
          let told = told_at m1.content (λ _. TellsIt (Err fault)) image (same ∙ is) tells in
          record {
            done = tt;
            cut = record {
              count = count;
              file = has_part (file_parts s w) count (with_newlines (requests_for s w label)) (request_part image is) f0 f1 f2 has.file told.file.part;
              report = has_part (report_parts s w) count (with_newlines (remarks_on s w label)) (remark_part image is) r0 r1 r2 has.report told.report.part;
            };
            undamaged = told.undamaged;
          })

-- ---- bytes are only added
