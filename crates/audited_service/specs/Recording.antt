-- How far a run has come that records each line before its reply is sent.
use Rattle.std.specs.Prelude.{◌≡◌, ◌⊎◌, ◌^◌, ℕ, List, ◌∷◌, [], ◌++◌, length, Option, IsSome, Ok, Err, Result}
use Rattle.std.specs.Io.KnownBytes.{Consumes}
use Rattle.device_cells.specs.Medium.{Medium, EachImage, Keeps}
use Rattle.device_cells.specs.WhereTold.{WhereTold}
use Rattle.line_service.specs.Lines.{lines}
use Rattle.audit_trail.specs.TrailStands.{IsTrail}
use Rattle.audit_trail.specs.declared.entries.Entry.{Entry}
use Rattle.audit_trail.specs.declared.faults.TrailFault.{TrailFault}
use Rattle.audit_trail.specs.declared.faults.TrailFault.TheVariants as trail_fault
use Rattle.line_service.specs.Machine.{Machine, World}
use Rattle.line_service.specs.Answering.{Steps, OnDisks}
use Rattle.line_service.specs.Serving.{Leads, EachPairStands, IsOnTheWay, AllAnswered, WholeLinesAnswered, ReplyCut, LineLost, Unopened, SparesAlways, AtRest}
use Rattle.line_service.specs.Stops.{IsLineStop, AnswersLines}
use Rattle.line_service.specs.declared.stops.Device.{Device}
use Rattle.line_service.specs.declared.stops.Stop.{Stop}
use Rattle.line_service.specs.declared.stops.Stop.TheVariants.{ReadFault, WriteFault, InputLimit, EntropyFault, Damaged}
use Rattle.audited_service.specs.Answers.{run_part}
use Rattle.audited_service.specs.Noting.{Noted, noting, Recorded, RecordedEither}

module _ (A : Machine) (entry : List ℕ → List ℕ → Entry) where
  -- The sink got the replies to the lines before some line of the input. The disks stand for the state after that line,
  -- and so does each pair of their images.
  pub record ReplyUnsent (s : Noted A.State) (random : Option (List ℕ)) (new : World)
      (input : List ℕ) (before now : Option (List ℕ)) : Type 0 where
    pub whole : List ℕ
    pub line : List ℕ
    pub others : List ℕ
    pub lines_are : lines input ≡ (lines whole ++ line ∷ []) ++ lines others
    pub state : Noted A.State
    pub sent : List ℕ
    pub leads : Leads (noting A entry) s random (lines whole) state sent
    pub drawn : List ℕ
    pub next : Noted A.State
    pub reply : List ℕ
    pub steps : Steps (noting A entry) state line drawn next reply
    pub consumed : Consumes random new.random (leads.drawn ++ drawn)
    pub held : WhereTold before now (λ x y. y ≡ x ++ sent)
    pub stands : OnDisks (noting A entry) next new.module_ new.store
    pub pairs : EachPairStands (noting A entry) next new

  -- What a run leaves that records each line before its reply is sent, by how it ended, from a state and the entries for
  -- which the trail stood. At each exit every image of the trail has the entries of the lines that the exit names.
  pub record RunRecorded (s : Noted A.State)
      (result : Result (Result (Unit {0}) Stop) TrailFault) (old new : World) (t0 t1 : Medium)
      (input rest before now : Option (List ℕ)) : Type 0 where
    pub done : result ≡ Ok (Ok tt) → WhereTold input rest (λ i r.
        (all : AllAnswered (noting A entry) s old.random new i before now)
        × Recorded t1 all.led.last.entries)
    pub stopped : (result ≡ Ok (Err ReadFault)) ⊎ (result ≡ Ok (Err InputLimit))
        → WhereTold input rest (λ i r.
        (whole : WholeLinesAnswered (noting A entry) s old.random new i r before now)
        × Recorded t1 whole.led.last.entries)
    -- the line whose reply was cut is among them
    pub cut : result ≡ Ok (Err WriteFault) → WhereTold input rest (λ i r.
        (cut : ReplyCut (noting A entry) s old.random new i before now)
        × Recorded t1 cut.next.entries)
    -- the line at which the device failed isn't
    pub lost : (stop : Stop) → IsLineStop stop → result ≡ Ok (Err stop)
        → WhereTold input rest (λ i r.
        ((lost : LineLost (noting A entry) stop s old.random new i before now)
        × Recorded t1 lost.state.entries)
        ⊎ (Unopened old new i r before now × Keeps t0 t1))
    pub undrawn : result ≡ Ok (Err EntropyFault) → WhereTold input rest (λ i r.
        (lost : LineLost (noting A entry) EntropyFault s old.random new i before now)
        × Recorded t1 lost.state.entries)
    -- the line that found the trail full isn't: a trail that tells its content has 2^63 entries then
    pub full : result ≡ Err trail_fault.Full → WhereTold input rest (λ i r.
        (unsent : ReplyUnsent s old.random new i before now)
        × Recorded t1 unsent.state.entries
        × (IsSome t0.content → length unsent.state.entries ≡ 2 ^ 63))
    -- the line at which the trail failed may be
    pub failed : result ≡ Err trail_fault.DiskFault → WhereTold input rest (λ i r.
        ((unsent : ReplyUnsent s old.random new i before now)
        × RecordedEither t1 unsent.state.entries unsent.next.entries)
        ⊎ (Unopened old new i r before now × Keeps t0 t1))
    -- a trail is damaged before the first line
    pub damaged : (cell : ℕ) → result ≡ Err (trail_fault.Damaged cell)
        → WhereTold input rest (λ i r. Unopened old new i r before now × Keeps t0 t1)
    pub undamaged : (device : Device) (cell : ℕ) → result ≡ Ok (Err (Damaged device cell)) → ⊥
    -- each image at a moment since the start
    pub on_module : WhereTold input rest (λ i r. EachImage old.module_ new.module_
        (λ c. old.module_.images c
        ⊎ IsOnTheWay (noting A entry) s old.random i (λ t. A.InModule t.state c)))
    pub on_store : WhereTold input rest (λ i r. EachImage old.store new.store
        (λ d. old.store.images d
        ⊎ IsOnTheWay (noting A entry) s old.random i (λ t. A.InStore t.state d)))
    pub on_trail : WhereTold input rest (λ i r. EachImage t0 t1
        (λ c. t0.images c
        ⊎ IsOnTheWay (noting A entry) s old.random i (λ t. IsTrail c t.entries)))
    pub spare : SparesAlways old new
    pub at_rest : AnswersLines (run_part result)
        → WhereTold input rest (λ i r. AtRest (noting A entry) s old.random i old new)
