-- How far a run has come: what its source gave, what its sink got, and what its disks stand for.
use Rattle.std.specs.Prelude.{◌≡◌, ◌⊎◌, ℕ, ◌*◌, ◌<◌, List, [], ◌∷◌, ◌++◌, length, slice_index, Bool, Option, Some, IfSome, Ok, Err, Result, OnOk}
use Rattle.std.specs.Io.KnownBytes.{Consumes}
use Rattle.device_cells.specs.Cells.{body, other_body}
use Rattle.device_cells.specs.Medium.{Medium, From, Becomes, EachImage, EachPair, Keeps}
use Rattle.device_cells.specs.SpareBytes.{SameSpare, SameCell}
use Rattle.device_cells.specs.WhereTold.{WhereTold}
use Rattle.line_service.specs.Lines.{lines, NoNewline, EndsLine}
use Rattle.line_service.specs.Reading.{TakesLine, Reading, line_limit}
use Rattle.line_service.specs.declared.lines.Taken.{Taken}
use Rattle.line_service.specs.declared.lines.Taken.TheVariants.{Line, TooLong, End}
use Rattle.line_service.specs.Machine.{Machine, Outcome, outcome_of_lines, World}
use Rattle.line_service.specs.Sending.{GotPart}
use Rattle.line_service.specs.Answering.{Steps, Around, Both, OnDisks, Stands, Unwritten, Turns}
use Rattle.line_service.specs.Stops.{IsLineStop, AnswersLines}
use Rattle.line_service.specs.declared.stops.Device.{Device}
use Rattle.line_service.specs.declared.stops.Stop.{Stop}
use Rattle.line_service.specs.declared.stops.Stop.TheVariants.{ReadFault, WriteFault, InputLimit, EntropyFault, Damaged}
use Rattle.line_service.specs.declared.serving.Served.{Served}
use Rattle.line_service.specs.declared.serving.Served.TheVariants.{Replied}

-- the machine's replies to lines, one after another, the state after them, and the random bytes that are left
abbrev pub session : (A : Machine) → A.State → List ℕ → List (List ℕ) → Outcome A.State
session A = outcome_of_lines A.step

-- The lines lead from one state to another with these replies. They take these random bytes, whatever follows them.
abbrev pub Runs : (A : Machine) → A.State → List (List ℕ) → List ℕ → A.State → List ℕ → Type 0
Runs A s ls drawn next sent =
    (rest : List ℕ)
    → session A s (drawn ++ rest) ls ≡ record { state = next; reply = sent; random = rest }

-- the bytes stand at the front of what a random source had left, where it tells that
abbrev pub IsFrontOf : Option (List ℕ) → List ℕ → Type 0
IsFrontOf random drawn = IfSome random (λ all. (left : List ℕ) × (all ≡ drawn ++ left))

-- some lines lead to a state with these replies, by random bytes that the source had
pub record Leads (A : Machine) (s : A.State) (random : Option (List ℕ)) (ls : List (List ℕ))
    (t : A.State) (sent : List ℕ) : Type 0 where
  pub drawn : List ℕ
  pub front : IsFrontOf random drawn
  pub runs : Runs A s ls drawn t sent

-- some lines lead with these replies to the state for which the disks stand, and no other random byte was taken
pub record Led (A : Machine) (s : A.State) (random : Option (List ℕ)) (new : World)
    (ls : List (List ℕ)) (sent : List ℕ) : Type 0 where
  pub last : A.State
  pub drawn : List ℕ
  pub consumed : Consumes random new.random drawn
  pub runs : Runs A s ls drawn last sent
  pub stands : OnDisks A last new.module_ new.store

-- P holds of the state after some first lines of the input, or of one on the way through the next line
pub record IsOnTheWay (A : Machine) (s : A.State) (random : Option (List ℕ)) (input : List ℕ)
    (P : A.State → Type 0) : Type 0 where
  pub first : List (List ℕ)
  pub others : List (List ℕ)
  pub lines_are : lines input ≡ first ++ others
  pub state : A.State
  pub sent : List ℕ
  pub leads : Leads A s random first state sent
  pub has : P state ⊎ ((line : List ℕ) × (more : List (List ℕ)) × (others ≡ line ∷ more)
      × ((t : A.State) × A.Between state line t × P t))

-- each image of the module with each of the store stands for the state
abbrev pub EachPairStands : (A : Machine) → A.State → World → Type 0
EachPairStands A s new = (c d : List ℕ) → new.module_.images c → new.store.images d → Both A c d s

-- A line that follows `first` random bytes was begun. Each pair of images stands for the state before it or after it,
-- or for one between.
pub record StandsAround (A : Machine) (s : A.State) (line : List ℕ) (random : Option (List ℕ))
    (first : List ℕ) (new : World) : Type 0 where
  pub drawn : List ℕ
  pub next : A.State
  pub reply : List ℕ
  pub steps : Steps A s line drawn next reply
  pub consumed : Consumes random new.random (first ++ drawn)
  pub pairs : (c d : List ℕ) → new.module_.images c → new.store.images d
      → Around A s line next (Both A c d)

-- ---- one line

-- the line that was taken
abbrev pub IsTheLine : Taken → Reading → List ℕ → Type 0
IsTheLine Line reading line = line ≡ reading.line
IsTheLine TooLong reading line = line_limit < length line
IsTheLine End reading line = ⊥

-- One line was taken from the bytes ahead, the sink got the reply to it, and disks and memory stand for the state
-- after it.
pub record AnswersLine (A : Machine) (s : A.State) (K : A.State → Type 0) (old new : World)
    (ahead rest : List ℕ) (ended : Bool) (before now : Option (List ℕ)) : Type 0 where
  pub line : List ℕ
  pub takes : TakesLine ahead line rest ended
  pub drawn : List ℕ
  pub next : A.State
  pub reply : List ℕ
  pub steps : Steps A s line drawn next reply
  pub consumed : Consumes old.random new.random drawn
  pub held : WhereTold before now (λ x y. y ≡ x ++ reply)
  pub stands : Stands A next K new.module_ new.store
  pub unwritten : A.Refuses s drawn line → Unwritten old new

-- the same, but that the sink didn't get all of the reply
pub record CutsReply (A : Machine) (s : A.State) (K : A.State → Type 0) (old new : World)
    (ahead rest : List ℕ) (ended : Bool) (before now : Option (List ℕ)) : Type 0 where
  pub line : List ℕ
  pub takes : TakesLine ahead line rest ended
  pub drawn : List ℕ
  pub next : A.State
  pub reply : List ℕ
  pub steps : Steps A s line drawn next reply
  pub consumed : Consumes old.random new.random drawn
  pub got : WhereTold before now (λ x y. GotPart x y reply)
  pub stands : Stands A next K new.module_ new.store
  pub unwritten : A.Refuses s drawn line → Unwritten old new

-- one line, at which the device may fail, was taken from the bytes ahead, and the device failed
pub record LosesLine (A : Machine) (stop : Stop) (s : A.State) (old new : World)
    (ahead rest : List ℕ) (ended : Bool) : Type 0 where
  pub line : List ℕ
  pub takes : TakesLine ahead line rest ended
  pub may_stop : A.MayStop stop s line
  pub left : EachPairStands A s new ⊎ StandsAround A s line old.random [] new
  pub undrawn : stop ≡ EntropyFault → EachPairStands A s new
  pub unwritten : A.Refuses s [] line → Unwritten old new

-- a line leads to this state, by random bytes that the source had
pub record LeadsOne (A : Machine) (s : A.State) (random : Option (List ℕ)) (line : List ℕ)
    (next : A.State) : Type 0 where
  pub drawn : List ℕ
  pub front : IsFrontOf random drawn
  pub reply : List ℕ
  pub steps : Steps A s line drawn next reply

-- P holds of the state before the first of the lines ahead or after it, or of one between
abbrev pub IsAroundLine : (A : Machine) → A.State → Option (List ℕ) → List ℕ → (A.State → Type 0)
    → Type 0
IsAroundLine A s random ahead P =
    P s ⊎ ((line : List ℕ) × (others : List ℕ) × (lines ahead ≡ line ∷ lines others)
    × ((next : A.State) × LeadsOne A s random line next × Around A s line next P))

-- an image on the way through the first of the lines ahead, or the content before it
abbrev pub IsWithinLine : (List ℕ → List ℕ → List ℕ → Type 0) → Medium → List ℕ → List ℕ → Type 0
IsWithinLine May old ahead image =
    (old.content ≡ Some image)
    ⊎ ((line : List ℕ) × (others : List ℕ) × (lines ahead ≡ line ∷ lines others)
    × From (May line) old image)

-- each image of a disk at a moment has the bytes outside selectors and bodies that the disk had
pub record KeepsSpare (old new : World) : Type 0 where
  pub on_module : EachImage old.module_ new.module_ (From SameSpare old.module_)
  pub on_store : EachImage old.store new.store (From SameSpare old.store)

-- What a line leaves from the state s, by how it came out. Memory then agrees with the states that have K. The options
-- are what the source had left and has left, and what the sink held and holds, where they tell it.
pub record LineServed (A : Machine) (s : A.State) (K : A.State → Type 0)
    (result : Result Served Stop) (old new : World) (input rest before now : Option (List ℕ))
    (r0 r1 : Reading) : Type 0 where
  pub replied : result ≡ Ok Replied → WhereTold input rest (λ i r.
      AnswersLine A s K old new (r0.pending ++ i) (r1.pending ++ r) r1.ended before now)
  pub cut : result ≡ Err WriteFault → WhereTold input rest (λ i r.
      CutsReply A s K old new (r0.pending ++ i) (r1.pending ++ r) r1.ended before now)
  pub lost : (stop : Stop) → IsLineStop stop → result ≡ Err stop → WhereTold input rest (λ i r.
      LosesLine A stop s old new (r0.pending ++ i) (r1.pending ++ r) r1.ended)
  pub undamaged : (device : Device) (cell : ℕ) → result ≡ Err (Damaged device cell) → ⊥
  pub on_module : WhereTold input rest (λ i r. EachImage old.module_ new.module_
      (λ c. IsAroundLine A s old.random (r0.pending ++ i) (λ t. A.InModule t c)))
  pub on_store : WhereTold input rest (λ i r. EachImage old.store new.store
      (λ d. IsAroundLine A s old.random (r0.pending ++ i) (λ t. A.InStore t d)))
  -- each image of the module at a moment of the call with each of the store stands for the same state
  pub pairs : WhereTold input rest (λ i r. EachPair old.module_ new.module_ old.store new.store
      (λ c d. IsAroundLine A s old.random (r0.pending ++ i) (Both A c d)))
  -- each image of a disk is one that a stop on the way through the line may leave
  pub within_module : WhereTold input rest (λ i r. EachImage old.module_ new.module_
      (IsWithinLine (A.ModuleMay s) old.module_ (r0.pending ++ i)))
  pub within_store : WhereTold input rest (λ i r. EachImage old.store new.store
      (IsWithinLine (A.StoreMay s) old.store (r0.pending ++ i)))
  pub spare : KeepsSpare old new
  pub turns : (result ≡ Ok Replied) ⊎ (result ≡ Err WriteFault) → Turns A old new
  pub goes_on : OnOk result ((t : A.State) × Stands A t K new.module_ new.store)

-- ---- all lines

-- the sink got the replies to all lines of the input, and the disks stand for the state after them
pub record AllAnswered (A : Machine) (s : A.State) (random : Option (List ℕ)) (new : World)
    (input : List ℕ) (before now : Option (List ℕ)) : Type 0 where
  pub sent : List ℕ
  pub held : WhereTold before now (λ x y. y ≡ x ++ sent)
  pub led : Led A s random new (lines input) sent

-- The sink got the replies to exactly those lines that a newline ended among the bytes that were taken, and the
-- disks stand for the state after them.
pub record WholeLinesAnswered (A : Machine) (s : A.State) (random : Option (List ℕ)) (new : World)
    (input rest : List ℕ) (before now : Option (List ℕ)) : Type 0 where
  pub whole : List ℕ
  pub part : List ℕ
  pub taken : input ≡ (whole ++ part) ++ rest
  pub ends : EndsLine whole
  pub no_line : NoNewline part
  pub sent : List ℕ
  pub held : WhereTold before now (λ x y. y ≡ x ++ sent)
  pub led : Led A s random new (lines whole) sent

-- The sink got the replies to the lines before some line of the input, and not all of the reply to it. The disks
-- stand for the state after that line.
pub record ReplyCut (A : Machine) (s : A.State) (random : Option (List ℕ)) (new : World)
    (input : List ℕ) (before now : Option (List ℕ)) : Type 0 where
  pub whole : List ℕ
  pub line : List ℕ
  pub others : List ℕ
  pub lines_are : lines input ≡ (lines whole ++ line ∷ []) ++ lines others
  pub state : A.State
  pub sent : List ℕ
  pub leads : Leads A s random (lines whole) state sent
  pub drawn : List ℕ
  pub next : A.State
  pub reply : List ℕ
  pub steps : Steps A state line drawn next reply
  pub consumed : Consumes random new.random (leads.drawn ++ drawn)
  pub got : WhereTold before now (λ x y. GotPart (x ++ sent) y reply)
  pub stands : OnDisks A next new.module_ new.store

-- The sink got the replies to the lines before some line of the input, at which the device may fail. Each pair of
-- images stands for the state before that line; or each stands for that or the one after it, or for one between.
pub record LineLost (A : Machine) (stop : Stop) (s : A.State) (random : Option (List ℕ))
    (new : World) (input : List ℕ) (before now : Option (List ℕ)) : Type 0 where
  pub whole : List ℕ
  pub line : List ℕ
  pub others : List ℕ
  pub lines_are : lines input ≡ (lines whole ++ line ∷ []) ++ lines others
  pub state : A.State
  pub sent : List ℕ
  pub leads : Leads A s random (lines whole) state sent
  pub held : WhereTold before now (λ x y. y ≡ x ++ sent)
  pub may_stop : A.MayStop stop state line
  pub left : EachPairStands A state new ⊎ StandsAround A state line random leads.drawn new
  pub undrawn : stop ≡ EntropyFault → EachPairStands A state new

-- The sink got the first bytes of the replies to the input.
pub record PrefixSent (A : Machine) (s : A.State) (random : Option (List ℕ)) (input : List ℕ)
    (before now : Option (List ℕ)) : Type 0 where
  pub first : List (List ℕ)
  pub others : List (List ℕ)
  pub lines_are : lines input ≡ first ++ others
  pub state : A.State
  pub replies : List ℕ
  pub leads : Leads A s random first state replies
  pub held : WhereTold before now
      (λ x y. (sent : List ℕ) × (missing : List ℕ) × (y ≡ x ++ sent) × (replies ≡ sent ++ missing))

-- Before the first line was taken: the sink got nothing, no byte of the source and no random byte was taken, and
-- neither what a disk holds nor what a stop may leave of it has changed.
pub record Unopened (old new : World) (input rest : List ℕ) (before now : Option (List ℕ))
    : Type 0 where
  pub untaken : rest ≡ input
  pub held : WhereTold before now (λ x y. y ≡ x)
  pub undrawn : new.random ≡ old.random
  pub on_module : Keeps old.module_ new.module_
  pub on_store : Keeps old.store new.store

-- After some first lines the disk had a content that stood for the state, and whose cell n selected this body.
pub record WasSelected (A : Machine) (In : A.State → List ℕ → Type 0) (s : A.State)
    (random : Option (List ℕ)) (ls : List (List ℕ)) (n : ℕ) (bytes : List ℕ) : Type 0 where
  pub first : List (List ℕ)
  pub others : List (List ℕ)
  pub lines_are : ls ≡ first ++ others
  pub state : A.State
  pub sent : List ℕ
  pub leads : Leads A s random first state sent
  pub content : List ℕ
  pub stands : In state content
  pub is : body content n ≡ bytes

-- What lines leave of a disk with so many cells. Each cell has the bytes that it had; or its selector is 0 or 1, and
-- the body that isn't selected was selected once, at the start or after some line. No byte outside selectors and
-- bodies has changed.
pub record Rests (A : Machine) (In : A.State → List ℕ → Type 0) (cells : ℕ) (s : A.State)
    (random : Option (List ℕ)) (ls : List (List ℕ)) (old new : List ℕ) : Type 0 where
  pub same : SameSpare old new
  pub each : (n : ℕ) → n < cells → SameCell n old new
      ⊎ ((slice_index new (1536 * n) < 2)
      × WasSelected A In s random ls n (other_body new n))

-- both disks at rest, after lines of the input
pub record AtRest (A : Machine) (s : A.State) (random : Option (List ℕ)) (input : List ℕ)
    (old new : World) : Type 0 where
  pub on_module : Becomes (Rests A A.InModule A.module_cells s random (lines input))
      old.module_ new.module_
  pub on_store : Becomes (Rests A A.InStore A.store_cells s random (lines input))
      old.store new.store

-- each image of a disk at a moment is one that a stop could leave at the start, or has the bytes outside selectors
-- and bodies that the disk had
pub record SparesAlways (old new : World) : Type 0 where
  pub on_module : EachImage old.module_ new.module_
      (λ c. old.module_.images c ⊎ From SameSpare old.module_ c)
  pub on_store : EachImage old.store new.store
      (λ d. old.store.images d ⊎ From SameSpare old.store d)

-- What a run leaves from the state s, by how it ended. The options are what the source had left and has left, and
-- what the sink held and holds, where they tell it.
pub record RunServed (A : Machine) (s : A.State) (result : Result (Unit {0}) Stop) (old new : World)
    (input rest before now : Option (List ℕ)) : Type 0 where
  pub done : result ≡ Ok tt
      → WhereTold input rest (λ i r. AllAnswered A s old.random new i before now)
  pub stopped : (result ≡ Err ReadFault) ⊎ (result ≡ Err InputLimit)
      → WhereTold input rest (λ i r. WholeLinesAnswered A s old.random new i r before now)
  pub cut : result ≡ Err WriteFault
      → WhereTold input rest (λ i r. ReplyCut A s old.random new i before now)
  pub lost : (stop : Stop) → IsLineStop stop → result ≡ Err stop
      → WhereTold input rest
      (λ i r. LineLost A stop s old.random new i before now ⊎ Unopened old new i r before now)
  -- random bytes are taken at a line alone
  pub undrawn : result ≡ Err EntropyFault
      → WhereTold input rest (λ i r. LineLost A EntropyFault s old.random new i before now)
  pub undamaged : (device : Device) (cell : ℕ) → result ≡ Err (Damaged device cell) → ⊥
  pub on_module : WhereTold input rest (λ i r. EachImage old.module_ new.module_
      (λ c. old.module_.images c ⊎ IsOnTheWay A s old.random i (λ t. A.InModule t c)))
  pub on_store : WhereTold input rest (λ i r. EachImage old.store new.store
      (λ d. old.store.images d ⊎ IsOnTheWay A s old.random i (λ t. A.InStore t d)))
  pub spare : SparesAlways old new
  pub at_rest : AnswersLines result
      → WhereTold input rest (λ i r. AtRest A s old.random i old new)
