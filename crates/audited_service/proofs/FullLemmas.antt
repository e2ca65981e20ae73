-- When a trail is full, and when a run answers every line.
use Rattle.std.proofs.Common.{◌≡◌, ◌≤◌, ◌<◌, ◌+◌, ◌^◌, ℕ, List, [], ◌∷◌, ◌++◌, length, Option, None, Some, IfSome, IsSome, Result, Ok, Err, refl, sym, ap, ◌∙◌, subst, inl, inr, arith, length-append}
use Rattle.std.specs.Prelude.{◌⊎◌, IfErr}
use Rattle.device_cells.specs.Medium.{Medium, Told, Keeps}
use Rattle.device_cells.specs.WhereTold.{WhereTold}
use Rattle.device_cells.proofs.WhereToldLemmas.{told_weaker}
use Rattle.device_cells.proofs.Media.{told_from, told_at}
use Rattle.line_service.specs.Lines.{lines}
use Rattle.line_service.specs.Reading.{Reading, input_limit}
use Rattle.audit_trail.specs.TrailStands.{IsTrail, StandsForTrail, IsFirstDamaged}
use Rattle.audit_trail.proofs.OpeningLaws.{trail_undamaged}
use Rattle.audit_trail.specs.declared.entries.Entry.{Entry}
use Rattle.audit_trail.specs.declared.faults.TrailFault.{TrailFault}
use Rattle.audit_trail.specs.declared.faults.TrailFault.TheVariants as trail_fault
use Rattle.audit_trail.proofs.TrailLaws.{number_is}
use Rattle.line_service.specs.Machine.{Machine, Outcome, World}
use Rattle.line_service.specs.Answering.{Stands}
use Rattle.line_service.specs.Stops.{IsOpeningStop}
use Rattle.line_service.specs.declared.stops.Device.{Device}
use Rattle.line_service.specs.declared.stops.Stop.{Stop}
use Rattle.line_service.specs.declared.stops.Stop.TheVariants.{ReadFault, WriteFault, EntropyFault, ModuleFault, StoreFault, Damaged, InputLimit}
use Rattle.line_service.specs.Serving.{Runs}
use Rattle.line_service.proofs.SessionLemmas.{HasServed, ahead_lines, step_on}
use Rattle.line_service.proofs.RunLemmas.{NoStop}
use Rattle.audited_service.specs.Noting.{Noted, noting, entries_of}
use Rattle.audited_service.specs.Answers.{run_part, AuditsLines}
use Rattle.audited_service.specs.Auditing.{IsUnsoundTrail}
use Rattle.audited_service.specs.Recording.{RunRecorded}
use Rattle.audited_service.specs.EachLine.{Agrees, IsAppendFault, LineUnsent, RecordedBy}
use Rattle.audited_service.proofs.NotingLemmas.{notes_lines}

-- a trail that tells its bytes has as many entries as the memory counts
pub told_number : (t : Medium) (n : ℕ) (es : List Entry) → IsSome t.content → Told t (λ c. StandsForTrail c n) → Told t (λ c. IsTrail c es) → length es ≡ n
told_number t n es some held trail = by_content t.content some held trail
  where
    by_content : (o : Option (List ℕ)) → IsSome o → IfSome o (λ c. StandsForTrail c n) → IfSome o (λ c. IsTrail c es) → length es ≡ n
    by_content None some held trail = cc some
    by_content (Some c) some held trail = number_is c n es held trail

module _ (A : Machine) (entry : List ℕ → List ℕ → Entry) where
  -- each line has one entry
  runs_entries : (s t : Noted A.State) (ls : List (List ℕ)) (drawn sent : List ℕ) → Runs (noting A entry) s ls drawn t sent → length t.entries ≡ length s.entries + length ls
  runs_entries s t ls drawn sent runs =
      let notes = notes_lines A entry ls s.state s.entries (drawn ++ []) in
      let added = entries_of A entry s.state (drawn ++ []) ls in
      sym (ap (λ (o : Outcome (Noted A.State)). length o.state.entries) (runs []))
      ∙ (ap length notes.entries ∙ (length-append s.entries added ∙ ap (λ (n : ℕ). length s.entries + n) notes.each))

  module _ (s : Noted A.State) (k k1 : A.State → Type 0) (t : Medium) (w0 w w1 : World) (n : ℕ) (some : IsSome t.content) (held : Told t (λ c. StandsForTrail c n)) (full : n ≡ 2 ^ 63) where
    too_many : (input ahead rest line : List ℕ) → (ws : List (List ℕ)) (last : Noted A.State) → lines input ≡ (ws ++ line ∷ []) ++ lines rest → length last.entries ≡ length s.entries + length ws → length last.entries ≡ n
        → 2 ^ 63 < length s.entries + length (lines input)
    too_many input ahead rest line ws last are counted is =
        let first : length (lines input) ≡ length (ws ++ line ∷ []) + length (lines rest) = ap length are ∙ length-append (ws ++ line ∷ []) (lines rest) in
        let second : length (ws ++ line ∷ []) ≡ length ws + 1 = length-append ws (line ∷ []) in
        omega (arith, first, second, counted, is, full)

    pub exit_full : (t1 : Medium) (a b c p q : Option (List ℕ)) (old new : Reading) (X : List ℕ → List ℕ → Type 0) → HasServed (noting A entry) s (Agrees k t) w0 w a b p q old → WhereTold b c X
        → ((v : Noted A.State) → Stands (noting A entry) v (Agrees k t) w.module_ w.store → WhereTold b c (λ i r. (unsent : LineUnsent A entry v w w1 (old.pending ++ i) (new.pending ++ r) new.ended) × RecordedBy trail_fault.Full t1 v.entries unsent.next.entries))
        → WhereTold a c (λ i r. 2 ^ 63 < length s.entries + length (lines i))
    exit_full t1 a b c p q old new X first told line =
        step_on (noting A entry) s (Agrees k t) w0 w a b c p q old X _ _
        (λ input mid rest served x unsent.
        too_many input (old.pending ++ mid) (new.pending ++ rest) unsent.0.line (lines served.whole) served.led.last
        (ahead_lines (noting A entry) s (Agrees k t) (Agrees k1 t1) w0 w w1 input (old.pending ++ mid) old.ended p q served unsent.0.line (new.pending ++ rest) unsent.0.takes.first)
        (runs_entries s served.led.last (lines served.whole) served.led.drawn served.sent served.led.runs)
        (told_number t n served.led.last.entries some held served.agrees.1))
        first told line

-- ---- where every line is answered

below_limit : (n m limit : ℕ) → n ≡ m + limit → n < limit → ⊥
below_limit n m limit is short = omega (arith, is, short)

pub completes : (A : Machine) (entry : List ℕ → List ℕ → Entry) (s : Noted A.State) (es : List Entry) (result : Result (Result (Unit {0}) Stop) TrailFault) (old new : World) (t0 t1 : Medium) (a b p q : Option (List ℕ))
    → RunRecorded A entry s result old new t0 t1 a b p q
    → NoStop (run_part result) → (result ≡ Err trail_fault.DiskFault → ⊥) → IfErr result IsAppendFault
    → (result ≡ Err trail_fault.Full → WhereTold a b (λ i r. 2 ^ 63 < length es + length (lines i)))
    → WhereTold a b (λ i r. result ≡ Ok (Err InputLimit) → length i ≡ length r + input_limit)
    → WhereTold a b (λ i r. length i < input_limit → length es + length (lines i) ≤ 2 ^ 63 → result ≡ Ok (Ok tt))
completes A entry s es (Ok (Ok done)) old new t0 t1 a b p q run none trail kinds full limit = told_weaker a b _ _ (λ i r h short few. refl) limit
completes A entry s es (Ok (Err ReadFault)) old new t0 t1 a b p q run none trail kinds full limit = absurd (none.reads refl)
completes A entry s es (Ok (Err WriteFault)) old new t0 t1 a b p q run none trail kinds full limit = absurd (none.writes refl)
completes A entry s es (Ok (Err ModuleFault)) old new t0 t1 a b p q run none trail kinds full limit = absurd (none.on_module refl)
completes A entry s es (Ok (Err StoreFault)) old new t0 t1 a b p q run none trail kinds full limit = absurd (none.on_store refl)
completes A entry s es (Ok (Err EntropyFault)) old new t0 t1 a b p q run none trail kinds full limit = absurd (none.draws refl)
completes A entry s es (Ok (Err (Damaged device cell))) old new t0 t1 a b p q run none trail kinds full limit = absurd (run.undamaged device cell refl)
completes A entry s es (Ok (Err InputLimit)) old new t0 t1 a b p q run none trail kinds full limit =
    told_weaker a b _ _ (λ i r told short few. absurd (below_limit (length i) (length r) input_limit (told refl) short)) limit
completes A entry s es (Err trail_fault.DiskFault) old new t0 t1 a b p q run none trail kinds full limit = absurd (trail refl)
completes A entry s es (Err (trail_fault.Damaged cell)) old new t0 t1 a b p q run none trail kinds full limit = absurd kinds
completes A entry s es (Err trail_fault.Full) old new t0 t1 a b p q run none trail kinds full limit =
    told_weaker a b _ _ (λ i r many short few. absurd (too_few (length es + length (lines i)) many few)) (full refl)
  where
    too_few : (n : ℕ) → 2 ^ 63 < n → n ≤ 2 ^ 63 → ⊥
    too_few n many few = omega (arith, many, few)

-- no device fails at opening, and nothing is damaged
pub no_opening_stop : (stop : Stop) → IsOpeningStop stop → (stop ≡ ModuleFault → ⊥) → (stop ≡ StoreFault → ⊥) → ((device : Device) (cell : ℕ) → stop ≡ Damaged device cell → ⊥) → ⊥
no_opening_stop ModuleFault kind m d damaged = m refl
no_opening_stop StoreFault kind m d damaged = d refl
no_opening_stop (Damaged device cell) kind m d damaged = damaged device cell refl
no_opening_stop EntropyFault kind m d damaged = kind
no_opening_stop ReadFault kind m d damaged = kind
no_opening_stop WriteFault kind m d damaged = kind
no_opening_stop InputLimit kind m d damaged = kind

-- a trail that stands for some entries is opened unless its disk fails
pub no_trail_fault : (t : Medium) (es : List Entry) (fault : TrailFault) → IsSome t.content → Told t (λ c. IsTrail c es) → (fault ≡ trail_fault.DiskFault) ⊎ ((cell : ℕ) × (cell < 4096) × (fault ≡ trail_fault.Damaged cell))
    → (fault ≡ trail_fault.DiskFault → ⊥) → ((cell : ℕ) → fault ≡ trail_fault.Damaged cell → Told t (λ image. IsFirstDamaged image cell)) → ⊥
no_trail_fault t es fault some held (inl failed) sound damaged = sound failed
no_trail_fault t es fault some held (inr named) sound damaged = both t.content some held (damaged named.0 named.2)
  where
    both : (o : Option (List ℕ)) → IsSome o → IfSome o (λ c. IsTrail c es) → IfSome o (λ c. IsFirstDamaged c named.0) → ⊥
    both None some held broken = cc some
    both (Some c) some held broken = trail_undamaged c es held named.0 broken

-- it isn't found full then
pub not_full : (fault : TrailFault) → (fault ≡ trail_fault.DiskFault) ⊎ ((cell : ℕ) × (cell < 4096) × (fault ≡ trail_fault.Damaged cell)) → fault ≡ trail_fault.Full → ⊥
not_full fault (inl failed) h = cc (failed, h)
not_full fault (inr named) h = cc (named.2, h)

pub audits_full : (fault : TrailFault) → AuditsLines (Err fault) → fault ≡ trail_fault.Full
audits_full trail_fault.Full audits = refl
audits_full trail_fault.DiskFault audits = absurd audits
audits_full (trail_fault.Damaged cell) audits = absurd audits

pub damaged_within : (fault : TrailFault) (cell : ℕ) → (fault ≡ trail_fault.DiskFault) ⊎ ((n : ℕ) × (n < 4096) × (fault ≡ trail_fault.Damaged n)) → fault ≡ trail_fault.Damaged cell → cell < 4096
damaged_within fault cell (inl failed) h = cc (failed, h)
damaged_within fault cell (inr named) h = let same : named.0 ≡ cell = cc (named.2, h) in subst (λ (n : ℕ). n < 4096) same named.1

-- ---- what a trail stands for as it was before it was opened

pub stood_before : (t0 t : Medium) (n : ℕ) → Keeps t0 t → Told t (λ c. StandsForTrail c n) → Told t0 (λ c. (es : List Entry) × IsTrail c es)
stood_before t0 t n kept told =
    told_from t0.content _ (λ c is. let stands = told_at t.content (λ d. StandsForTrail d n) c (kept.content ∙ is) told in (stands.0, stands.2))

pub stood_for_some : (t0 : Medium) → IsUnsoundTrail t0 → Told t0 (λ c. (es : List Entry) × IsTrail c es) → ⊥
stood_for_some t0 unsound told =
    let stands = told_at t0.content (λ c. (es : List Entry) × IsTrail c es) unsound.image unsound.told told in
    unsound.has stands.0 stands.1

-- ---- damage of the trail

pub told_on : (t : Medium) (P Q : List ℕ → Type 0) → ((c : List ℕ) → P c → Q c) → Told t P → Told t Q
told_on t P Q on told = told_from t.content Q (λ c is. on c (told_at t.content P c is told))

-- an append doesn't find a damaged cell
pub append_undamaged : (result : Result (Result (Unit {0}) Stop) TrailFault) (cell : ℕ) → IfErr result IsAppendFault → result ≡ Err (trail_fault.Damaged cell) → ⊥
append_undamaged result cell kinds is = subst (λ (r : Result (Result (Unit {0}) Stop) TrailFault). IfErr r IsAppendFault) is kinds
