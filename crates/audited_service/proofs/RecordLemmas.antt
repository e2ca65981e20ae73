-- One line, as it is taken, answered, recorded and sent.
use Rattle.std.proofs.Common.{◌≡◌, ℕ, List, [], ◌∷◌, ◌++◌, Option, Result, Ok, Err, refl, ap, sym, subst, ◌∙◌, inl, inr}
use Rattle.std.specs.Prelude.{◌⊎◌}
use Rattle.device_cells.specs.Medium.{Medium, EachImage, IsSettled, Told, From}
use Rattle.device_cells.specs.WhereTold.{WhereTold}
use Rattle.device_cells.proofs.Media.{each_weaker, each_still, image_now, settled_image, told_at}
use Rattle.device_cells.proofs.WhereToldLemmas.{told_weaker}
use Rattle.line_service.specs.Reading.{Reading, TakesLine, Takes}
use Rattle.line_service.specs.declared.lines.Taken.{Taken}
use Rattle.line_service.specs.declared.lines.Taken.TheVariants.{End}
use Rattle.audit_trail.specs.Changes.{Appending, AppendsEntry}
use Rattle.audit_trail.specs.TrailStands.{IsTrail}
use Rattle.audit_trail.specs.declared.entries.Entry.{Entry}
use Rattle.audit_trail.specs.declared.faults.TrailFault.{TrailFault}
use Rattle.audit_trail.specs.declared.faults.TrailFault.TheVariants as trail_fault
use Rattle.line_service.specs.Machine.{Machine, Outcome, World}
use Rattle.line_service.specs.Answering.{Holds, OnDisks, Stands, Steps, Moves, Serves}
use Rattle.line_service.specs.Serving.{IsTheLine, IsAroundLine, EachPairStands, LineServed}
use Rattle.line_service.specs.declared.serving.Served.{Served}
use Rattle.line_service.specs.declared.serving.Served.TheVariants.{Replied, Ended}
use Rattle.line_service.specs.Sending.{GotPart}
use Rattle.line_service.specs.declared.stops.Stop.{Stop}
use Rattle.line_service.specs.declared.stops.Stop.TheVariants.{ReadFault, WriteFault, InputLimit}
use Rattle.line_service.proofs.LineLemmas.{still_has, line_taken, moved, leads_one, around, around_module, around_store, keeps_spare, turned, line_replied, line_cut, line_lost, line_ended, line_unread, line_over}
use Rattle.audited_service.specs.Noting.{Noted, noting, Recorded}
use Rattle.audited_service.specs.EachLine.{Agrees, LineRecorded, RecordedBy}
use Rattle.audited_service.proofs.NotingLemmas.{serves_noted, off_disks}

-- ---- disks

-- each pair of images stands for the state for which the disks stand
pub each_pair_stands : (A : Machine) (s : A.State) (w : World) → OnDisks A s w.module_ w.store → IsSettled w.module_ → IsSettled w.store → EachPairStands A s w
each_pair_stands A s w disks m d = λ c e left right.
    (each_image w.module_ (A.InModule s) disks.in_module m c left, each_image w.store (A.InStore s) disks.in_store d e right)
  where
    each_image : (x : Medium) (P : List ℕ → Type 0) → Holds x P → IsSettled x → (c : List ℕ) → x.images c → P c
    each_image x P holds settled c among = image_now x x P (still_has x P holds settled) c among

-- ---- the trail

-- each image of a settled trail is its content
pub recorded_now : (t : Medium) (es : List Entry) → IsSettled t → Told t (λ c. IsTrail c es) → Recorded t es
recorded_now t es settled told = λ c image. settled_image t (λ d. IsTrail d es) c settled told image

pub trail_still : (t : Medium) (es : List Entry) → IsSettled t → Told t (λ c. IsTrail c es) → EachImage t t (λ c. IsTrail c es)
trail_still t es settled told = each_weaker t t t.images (λ c. IsTrail c es) (each_still t) (recorded_now t es settled told)

pub trail_moved : (n : ℕ) (e : Entry) (t0 t1 : Medium) (r : Result (Unit {0}) TrailFault) (es : List Entry) → AppendsEntry n e t0 t1 r → Told t0 (λ c. IsTrail c es)
    → EachImage t0 t1 (λ c. IsTrail c es ⊎ IsTrail c (es ++ e ∷ []))
trail_moved n e t0 t1 r es appends told =
    each_weaker t0 t1 (From (Appending n e) t0) (λ c. IsTrail c es ⊎ IsTrail c (es ++ e ∷ [])) appends.moments
    (λ c from. from.2.stands es (told_at t0.content (λ d. IsTrail d es) from.0 from.1 told))

module _ (A : Machine) (entry : List ℕ → List ℕ → Entry) (s : Noted A.State) where
  -- a line's entry stands behind those before
  pub next_entries : (line drawn answer : List ℕ) (next : Noted A.State) → Steps (noting A entry) s line drawn next answer → next.entries ≡ s.entries ++ entry line answer ∷ []
  next_entries line drawn answer next steps =
      sym (ap (λ (o : Outcome (Noted A.State)). o.state.entries) (steps []))
      ∙ ap (λ (bytes : List ℕ). s.entries ++ entry line bytes ∷ []) (ap (λ (o : Outcome (Noted A.State)). o.reply) (steps []))

  -- no line was recorded
  pub trail_as_before : (a b : Option (List ℕ)) (random : Option (List ℕ)) (r0 : Reading) (X : List ℕ → List ℕ → Type 0) (t : Medium) → WhereTold a b X → IsSettled t → Told t (λ c. IsTrail c s.entries)
      → WhereTold a b (λ i r. EachImage t t (λ c. IsAroundLine (noting A entry) s random (r0.pending ++ i) (λ u. IsTrail c u.entries)))
  trail_as_before a b random r0 X t told settled trail =
      told_weaker a b _ _ (λ i r x. each_weaker t t (λ c. IsTrail c s.entries) _ (trail_still t s.entries settled trail) (λ c h. inl h)) told

  pub recorded_ok : (K : Noted A.State → Type 0) (r : Result Served Stop) (old new : World) (t0 t1 : Medium) (a b p q : Option (List ℕ)) (r0 r1 : Reading)
      → LineServed (noting A entry) s K r old new a b p q r0 r1
      → WhereTold a b (λ i x. EachImage t0 t1 (λ c. IsAroundLine (noting A entry) s old.random (r0.pending ++ i) (λ u. IsTrail c u.entries)))
      → LineRecorded A entry s K (Ok r) old new t0 t1 a b p q r0 r1
  recorded_ok K r old new t0 t1 a b p q r0 r1 served moments = record {
    served = served;
    unsent = λ fault h. absurd (cc h);
    on_module = served.on_module;
    on_store = served.on_store;
    on_trail = moments;
    spare = served.spare;
    turns = tt;
  }

  -- a line was answered
  module _ (K1 : Noted A.State → Type 0) (taken : Taken) (now : Reading) (some : taken ≡ End → ⊥) (reply : List ℕ) (old new : World) (u : Unit {0})
      (serves : (line : List ℕ) → IsTheLine taken now line → Serves (noting A entry) s K1 line (Ok u) reply old new)
      (e : Entry) (e_is : (line : List ℕ) → IsTheLine taken now line → e ≡ entry line reply) where
    entries_are : (line : List ℕ) → IsTheLine taken now line → (moves : Moves (noting A entry) s K1 line (Ok u) reply old new) → s.entries ++ e ∷ [] ≡ moves.next.entries
    entries_are line is moves =
        ap (λ (x : Entry). s.entries ++ x ∷ []) (e_is line is ∙ ap (entry line) moves.reply_is)
        ∙ sym (next_entries line moves.drawn moves.answer moves.next moves.steps)

    pub trail_around : (t0 t1 : Medium) (r0 : Reading) (a b : Option (List ℕ)) → WhereTold a b (λ i r. Takes taken (r0.pending ++ i) now (now.pending ++ r))
        → EachImage t0 t1 (λ c. IsTrail c s.entries ⊎ IsTrail c (s.entries ++ e ∷ []))
        → WhereTold a b (λ i r. EachImage t0 t1 (λ c. IsAroundLine (noting A entry) s old.random (r0.pending ++ i) (λ t. IsTrail c t.entries)))
    trail_around t0 t1 r0 a b takes moments =
        told_weaker a b _ _
        (λ i r took.
        let here = line_taken taken (r0.pending ++ i) (now.pending ++ r) now some took in
        let moves = moved (noting A entry) s K1 u here.line reply old new (serves here.line here.is) in
        each_weaker t0 t1 _ _ moments
        (λ c on. at_line (r0.pending ++ i) (now.pending ++ r) here.line here.is here.takes moves c on))
        takes
      where
        at_line : (ahead rest line : List ℕ) → IsTheLine taken now line → TakesLine ahead line rest now.ended → (moves : Moves (noting A entry) s K1 line (Ok u) reply old new) → (c : List ℕ)
            → IsTrail c s.entries ⊎ IsTrail c (s.entries ++ e ∷ []) → IsAroundLine (noting A entry) s old.random ahead (λ t. IsTrail c t.entries)
        at_line ahead rest line is takes moves c (inl was) = inl was
        at_line ahead rest line is takes moves c (inr more) =
            around (noting A entry) s K1 old.random line ahead rest moves.next (λ t. IsTrail c t.entries) takes.first (leads_one (noting A entry) s K1 (Ok u) line reply old new moves)
            (inr (inl (subst (IsTrail c) (entries_are line is moves) more)))

    -- and not recorded, as far as is known
    pub recorded_err : (K : Noted A.State → Type 0) (fault : TrailFault) (t0 t1 : Medium) (r0 : Reading) (a b p q : Option (List ℕ)) → IsSettled new.module_ → IsSettled new.store → WhereTold a b (λ i r. Takes taken (r0.pending ++ i) now (now.pending ++ r))
        → EachImage t0 t1 (λ c. IsTrail c s.entries ⊎ IsTrail c (s.entries ++ e ∷ [])) → RecordedBy fault t1 s.entries (s.entries ++ e ∷ [])
        → LineRecorded A entry s K (Err fault) old new t0 t1 a b p q r0 now
    recorded_err K fault t0 t1 r0 a b p q m d takes moments recorded = record {
      served = tt;
      unsent = λ other h. told_weaker a b _ _
          (λ i r took.
          let same : fault ≡ other = cc h in
          let here = line_taken taken (r0.pending ++ i) (now.pending ++ r) now some took in
          let moves = moved (noting A entry) s K1 u here.line reply old new (serves here.line here.is) in (
            record {
              line = here.line;
              takes = here.takes;
              drawn = moves.drawn;
              next = moves.next;
              reply = moves.answer;
              steps = moves.steps;
              consumed = moves.consumed;
              stands = moves.stands.disks;
              pairs = each_pair_stands (noting A entry) moves.next new moves.stands.disks m d;
            },
            subst (λ (f : TrailFault). RecordedBy f t1 s.entries moves.next.entries) same
                (subst (RecordedBy fault t1 s.entries) (entries_are here.line here.is moves) recorded),
          ))
          takes;
      on_module = around_module (noting A entry) s K1 (Ok u) taken now some reply old new serves r0 a b takes;
      on_store = around_store (noting A entry) s K1 (Ok u) taken now some reply old new serves r0 a b takes;
      on_trail = trail_around t0 t1 r0 a b takes moments;
      spare = keeps_spare (noting A entry) s K1 (Ok u) taken now some reply old new serves;
      turns = turned (noting A entry) s K1 taken now some reply old new u serves;
    }

-- ---- exits of a line

module _ (A : Machine) (entry : List ℕ → List ℕ → Entry) (s : Noted A.State) where
  pub stands_off : (k : A.State → Type 0) (t m d : Medium) → Stands (noting A entry) s (Agrees k t) m d → Stands A s.state k m d
  stands_off k t m d stands = record { disks = off_disks A entry s m d stands.disks; agrees = stands.agrees.0 }

  module _ (k : A.State → Type 0) (t0 t1 : Medium) (taken : Taken) (now : Reading) (some : taken ≡ End → ⊥) (reply : List ℕ) (old new : World) where
    module _ (serves : (line : List ℕ) → IsTheLine taken now line → Serves A s.state k line (Ok tt) reply old new) (n : ℕ) (e : Entry) (e_is : (line : List ℕ) → IsTheLine taken now line → e ≡ entry line reply)
        (told : Told t0 (λ c. IsTrail c s.entries)) (r0 : Reading) (a b p q : Option (List ℕ)) (takes : WhereTold a b (λ i r. Takes taken (r0.pending ++ i) now (now.pending ++ r))) where
      with_record : AppendsEntry n e t0 t1 (Ok tt) → (line : List ℕ) → IsTheLine taken now line → Serves (noting A entry) s (Agrees k t1) line (Ok tt) reply old new
      with_record appends line is =
          serves_noted A entry s k (Agrees k t1) line (Ok tt) reply old new
          (λ next has. (has, subst (λ (x : Entry). Told t1 (λ c. IsTrail c (s.entries ++ x ∷ []))) (e_is line is) (appends.stands s.entries told)))
          (serves line is)

      without : (line : List ℕ) → IsTheLine taken now line → Serves (noting A entry) s (λ u. Unit {0}) line (Ok tt) reply old new
      without line is = serves_noted A entry s k (λ u. Unit {0}) line (Ok tt) reply old new (λ next has. tt) (serves line is)

      pub line_sent : AppendsEntry n e t0 t1 (Ok tt) → WhereTold p q (λ x y. y ≡ x ++ reply) → LineRecorded A entry s (Agrees k t1) (Ok (Ok Replied)) old new t0 t1 a b p q r0 now
      line_sent appends sent =
          recorded_ok A entry s (Agrees k t1) (Ok Replied) old new t0 t1 a b p q r0 now
          (line_replied (noting A entry) s (Agrees k t1) taken now some reply old new tt (with_record appends) r0 a b p q takes sent)
          (trail_around A entry s (Agrees k t1) taken now some reply old new tt (with_record appends) e e_is t0 t1 r0 a b takes (trail_moved n e t0 t1 (Ok tt) s.entries appends told))

      pub line_cut_off : AppendsEntry n e t0 t1 (Ok tt) → WhereTold p q (λ x y. GotPart x y reply) → LineRecorded A entry s (Agrees k t1) (Ok (Err WriteFault)) old new t0 t1 a b p q r0 now
      line_cut_off appends sent =
          recorded_ok A entry s (Agrees k t1) (Err WriteFault) old new t0 t1 a b p q r0 now
          (line_cut (noting A entry) s (Agrees k t1) taken now some reply old new tt (with_record appends) r0 a b p q takes sent)
          (trail_around A entry s (Agrees k t1) taken now some reply old new tt (with_record appends) e e_is t0 t1 r0 a b takes (trail_moved n e t0 t1 (Ok tt) s.entries appends told))

      pub line_unsent : (K : Noted A.State → Type 0) (fault : TrailFault) → IsSettled new.module_ → IsSettled new.store → AppendsEntry n e t0 t1 (Err fault) → RecordedBy fault t1 s.entries (s.entries ++ e ∷ []) → LineRecorded A entry s K (Err fault) old new t0 t1 a b p q r0 now
      line_unsent K fault m d appends recorded =
          recorded_err A entry s (λ u. Unit {0}) taken now some reply old new tt without e e_is K fault t0 t1 r0 a b p q m d takes (trail_moved n e t0 t1 (Err fault) s.entries appends told) recorded

  -- a device failed while the line was answered
  pub line_failed : (k : A.State → Type 0) (t : Medium) (taken : Taken) (now : Reading) → (taken ≡ End → ⊥) → (reply : List ℕ) (old new : World) (stop : Stop)
      → ((line : List ℕ) → IsTheLine taken now line → Serves A s.state k line (Err stop) reply old new) → IsSettled t → Told t (λ c. IsTrail c s.entries)
      → (r0 : Reading) (a b p q : Option (List ℕ)) → WhereTold a b (λ i r. Takes taken (r0.pending ++ i) now (now.pending ++ r))
      → LineRecorded A entry s (Agrees k t) (Ok (Err stop)) old new t t a b p q r0 now
  line_failed k t taken now some reply old new stop serves settled told r0 a b p q takes =
      recorded_ok A entry s (Agrees k t) (Err stop) old new t t a b p q r0 now
      (line_lost (noting A entry) s (Agrees k t) taken now some reply old new stop
      (λ line is. serves_noted A entry s k (Agrees k t) line (Err stop) reply old new tt (serves line is)) r0 a b p q takes)
      (trail_as_before A entry s a b old.random r0 (λ i r. Takes taken (r0.pending ++ i) now (now.pending ++ r)) t takes settled told)

  -- no line was taken
  module _ (k : A.State → Type 0) (t : Medium) (w : World) (a b p : Option (List ℕ)) (r0 r1 : Reading) (X : List ℕ → List ℕ → Type 0) (told : WhereTold a b X)
      (stands : Stands (noting A entry) s (Agrees k t) w.module_ w.store) (m : IsSettled w.module_) (d : IsSettled w.store) (settled : IsSettled t) where
    still : WhereTold a b (λ i r. EachImage t t (λ c. IsAroundLine (noting A entry) s w.random (r0.pending ++ i) (λ u. IsTrail c u.entries)))
    still = trail_as_before A entry s a b w.random r0 X t told settled stands.agrees.1

    pub at_end_recorded : LineRecorded A entry s (Agrees k t) (Ok (Ok Ended)) w w t t a b p p r0 r1
    at_end_recorded = recorded_ok A entry s (Agrees k t) (Ok Ended) w w t t a b p p r0 r1 (line_ended (noting A entry) s (Agrees k t) w a b p p r0 r1 X told stands m d) still

    pub unread_recorded : LineRecorded A entry s (Agrees k t) (Ok (Err ReadFault)) w w t t a b p p r0 r1
    unread_recorded = recorded_ok A entry s (Agrees k t) (Err ReadFault) w w t t a b p p r0 r1 (line_unread (noting A entry) s (Agrees k t) w a b p p r0 r1 X told stands m d) still

    pub over_recorded : LineRecorded A entry s (Agrees k t) (Ok (Err InputLimit)) w w t t a b p p r0 r1
    over_recorded = recorded_ok A entry s (Agrees k t) (Err InputLimit) w w t t a b p p r0 r1 (line_over (noting A entry) s (Agrees k t) w a b p p r0 r1 X told stands m d) still

-- ---- what the trail holds after an append that failed

pub recorded_by : (fault : TrailFault) (n : ℕ) (e : Entry) (t0 t1 : Medium) (es : List Entry) → AppendsEntry n e t0 t1 (Err fault) → IsSettled t0 → Told t0 (λ c. IsTrail c es)
    → (fault ≡ trail_fault.DiskFault) ⊎ (fault ≡ trail_fault.Full) → (fault ≡ trail_fault.Full → t1 ≡ t0) → RecordedBy fault t1 es (es ++ e ∷ [])
recorded_by trail_fault.DiskFault n e t0 t1 es appends settled told kinds untouched =
    image_now t0 t1 (λ c. IsTrail c es ⊎ IsTrail c (es ++ e ∷ [])) (trail_moved n e t0 t1 (Err trail_fault.DiskFault) es appends told)
recorded_by trail_fault.Full n e t0 t1 es appends settled told kinds untouched =
    subst (λ (t : Medium). Recorded t es) (sym (untouched refl)) (recorded_now t0 es settled told)
recorded_by (trail_fault.Damaged cell) n e t0 t1 es appends settled told (inl h) untouched = absurd (cc h)
recorded_by (trail_fault.Damaged cell) n e t0 t1 es appends settled told (inr h) untouched = absurd (cc h)
