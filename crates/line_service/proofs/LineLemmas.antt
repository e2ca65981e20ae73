-- One line, as it is taken, answered and sent.
use Rattle.std.proofs.Common.{◌≡◌, ◌≤◌, ◌∙◌, ℕ, zero, suc, ◌+◌, Bool, List, [], ◌∷◌, ◌++◌, length, Option, None, Some, Result, Ok, Err, refl, ap, sym, subst, inl, inr, ⊎_elim, arith}
use Rattle.std.specs.Prelude.{⊤, ◌⊎◌, OnOk, replicate}
use Rattle.std.specs.Io.KnownBytes.{Consumes}
use Rattle.std.proofs.KnownBytes.{Consumes-nil}
use Rattle.device_cells.specs.Medium.{Medium, From, EachImage, EachPair, IsSettled}
use Rattle.device_cells.specs.WhereTold.{WhereTold}
use Rattle.device_cells.proofs.Media.{each_weaker, each_still, each_pair, image_now, settled_image, told_from}
use Rattle.device_cells.proofs.WhereToldLemmas.{told_weaker}
use Rattle.line_service.specs.Lines.{lines}
use Rattle.line_service.specs.Reading.{Reading, TakesLine, line_limit, Shows, Takes}
use Rattle.line_service.specs.declared.lines.Taken.{Taken}
use Rattle.line_service.specs.declared.lines.Taken.TheVariants.{Line, TooLong, End}
use Rattle.line_service.specs.Machine.{Machine, World}
use Rattle.line_service.specs.Sending.{GotPart}
use Rattle.line_service.specs.Stops.{IsLineStop, IsDeskStop}
use Rattle.line_service.specs.Answering.{Holds, Stands, Steps, Around, Both, Stays, Unwritten, Moves, Turns, Serves}
use Rattle.line_service.specs.Serving.{IsTheLine, IsFrontOf, EachPairStands, StandsAround, LeadsOne, LosesLine, IsAroundLine, IsWithinLine, KeepsSpare, LineServed}
use Rattle.line_service.specs.declared.serving.Served.{Served}
use Rattle.line_service.specs.declared.serving.Served.TheVariants.{Replied, Ended}
use Rattle.line_service.specs.declared.stops.Stop.{Stop}
use Rattle.line_service.specs.declared.stops.Stop.TheVariants.{WriteFault, ReadFault, InputLimit, Damaged}
use Rattle.line_service.specs.declared.stops.Device.{Device}
use Rattle.line_service.proofs.SpareLaws.{turns_still, within_still, spare_still, within_spare}

-- ---- disks

pub front_of : (a b : Option (List ℕ)) (drawn : List ℕ) → Consumes a b drawn → IsFrontOf a drawn
front_of None b drawn consumes = tt
front_of (Some x) None drawn consumes = absurd consumes
front_of (Some x) (Some y) drawn consumes = (y, consumes)

-- a settled disk whose content has P: each of its images has
pub still_has : (m : Medium) (P : List ℕ → Type 0) → Holds m P → IsSettled m → EachImage m m P
still_has m P holds settled =
    each_weaker m m m.images P (each_still m)
    (λ c among. settled_image m P c settled (told_from m.content P (λ d told. has d told)) among)
  where
    has : (d : List ℕ) → m.content ≡ Some d → P d
    has d told = let same : holds.image ≡ d = cc (holds.told, told) in subst P same holds.has

pub pairs_now : (m0 m1 d0 d1 : Medium) (P : List ℕ → List ℕ → Type 0) → EachPair m0 m1 d0 d1 P → (c d : List ℕ) → m1.images c → d1.images d → P c d
pairs_now m0 m1 d0 d1 P pairs c d left right =
    pairs.each c d (m1.counts_now m0.moment c pairs.later1 left) (d1.counts_now d0.moment d pairs.later2 right)

-- the line that was taken
pub record IsTaken (taken : Taken) (ahead rest : List ℕ) (reading : Reading) : Type 0 where
  pub line : List ℕ
  pub takes : TakesLine ahead line rest reading.ended
  pub is : IsTheLine taken reading line

pub line_taken : (taken : Taken) (ahead rest : List ℕ) (reading : Reading) → (taken ≡ End → ⊥) → Takes taken ahead reading rest → IsTaken taken ahead rest reading
line_taken Line ahead rest reading some takes = record { line = reading.line; takes = takes.0; is = refl }
line_taken TooLong ahead rest reading some takes = record { line = takes.0; takes = takes.1; is = takes.2 }
line_taken End ahead rest reading some takes = absurd (some refl)

pub long_line : (n b : ℕ) → length (replicate n b) ≡ n
long_line zero b = refl
long_line (suc n) b = ap suc (long_line n b)

-- some line that may be the one
pub some_line : (taken : Taken) (reading : Reading) → (taken ≡ End → ⊥) → (line : List ℕ) × IsTheLine taken reading line
some_line Line reading some = (reading.line, refl)
some_line TooLong reading some = let b : ℕ = 0 in let long = long_line (line_limit + 1) b in (replicate (line_limit + 1) b, omega (arith, long))
some_line End reading some = absurd (some refl)

pub no_write : (stop : Stop) → IsDeskStop stop → stop ≡ WriteFault → ⊥
no_write stop is h = subst IsDeskStop h is

-- ---- a line, from a state

pub unwritten_still : (w : World) → Unwritten w w
unwritten_still w = record { on_module = each_still w.module_; on_store = each_still w.store }

module _ (A : Machine) (s : A.State) (K : A.State → Type 0) where
  pub stays_still : (w : World) → Stands A s K w.module_ w.store → IsSettled w.module_ → IsSettled w.store → Stays A s w w
  stays_still w stands m d = record {
    on_module = still_has w.module_ (A.InModule s) stands.disks.in_module m;
    on_store = still_has w.store (A.InStore s) stands.disks.in_store d;
  }

  -- a line that is refused from the state with no device called
  pub refused_serves : (line reply : List ℕ) (w : World) → Steps A s line [] s reply → Stands A s K w.module_ w.store → IsSettled w.module_ → IsSettled w.store
      → Serves A s K line (Ok tt) reply w w
  refused_serves line reply w steps stands m d =
      let stays = stays_still w stands m d in
      record {
        served = inl (record {
          drawn = [];
          next = s;
          answer = reply;
          steps = steps;
          consumed = Consumes-nil w.random;
          reply_is = refl;
          stands = stands;
          on_module = each_weaker w.module_ w.module_ _ _ stays.on_module (λ c h. inl h);
          on_store = each_weaker w.store w.store _ _ stays.on_store (λ c h. inl h);
          pairs = each_pair w.module_ w.module_ w.store w.store _ _ _ stays.on_module stays.on_store (λ c e h k. inl (h, k));
          unwritten = λ h. unwritten_still w;
        });
        stops = tt;
        undrawn = λ h. absurd (cc h);
        unwritten = λ h. unwritten_still w;
        within = within_still A s line w m d;
        turns = turns_still A w;
      }

  -- no line was answered
  module _ (w : World) (a b p q : Option (List ℕ)) (r0 r1 : Reading) (X : List ℕ → List ℕ → Type 0) (told : WhereTold a b X)
      (stands : Stands A s K w.module_ w.store) (m : IsSettled w.module_) (d : IsSettled w.store) where
    pub module_as_before : WhereTold a b (λ i r. EachImage w.module_ w.module_ (λ c. IsAroundLine A s w.random (r0.pending ++ i) (λ t. A.InModule t c)))
    module_as_before = told_weaker a b _ _ (λ i r x. each_weaker w.module_ w.module_ _ _ (stays_still w stands m d).on_module (λ c h. inl h)) told

    pub store_as_before : WhereTold a b (λ i r. EachImage w.store w.store (λ e. IsAroundLine A s w.random (r0.pending ++ i) (λ t. A.InStore t e)))
    store_as_before = told_weaker a b _ _ (λ i r x. each_weaker w.store w.store _ _ (stays_still w stands m d).on_store (λ c h. inl h)) told

    pub pairs_as_before : WhereTold a b (λ i r. EachPair w.module_ w.module_ w.store w.store (λ c e. IsAroundLine A s w.random (r0.pending ++ i) (Both A c e)))
    pairs_as_before =
        let stays = stays_still w stands m d in
        told_weaker a b _ _ (λ i r x. each_pair w.module_ w.module_ w.store w.store _ _ _ stays.on_module stays.on_store (λ c e h k. inl (h, k))) told

    pub still_within : (May : List ℕ → List ℕ → List ℕ → Type 0) (old : Medium) → IsSettled old
        → WhereTold a b (λ i r. EachImage old old (IsWithinLine May old (r0.pending ++ i)))
    still_within May old settled =
        told_weaker a b _ _ (λ i r x. each_weaker old old _ _ (each_still old) (λ c image. inl (settled.only c image))) told

    pub line_ended : LineServed A s K (Ok Ended) w w a b p q r0 r1
    line_ended = record {
      replied = λ h. absurd (cc h);
      cut = λ h. absurd (cc h);
      lost = λ stop kind h. absurd (cc h);
      undamaged = λ device cell h. cc h;
      on_module = module_as_before;
      on_store = store_as_before;
      pairs = pairs_as_before;
      within_module = still_within (A.ModuleMay s) w.module_ m;
      within_store = still_within (A.StoreMay s) w.store d;
      spare = spare_still w m d;
      turns = λ h. absurd (⊎_elim (λ replied. cc replied) (λ cut. cc cut) h);
      goes_on = (s, stands);
    }

    pub stopped : (stop : Stop) → (stop ≡ WriteFault → ⊥) → (IsLineStop stop → ⊥) → ((device : Device) (cell : ℕ) → stop ≡ Damaged device cell → ⊥)
        → LineServed A s K (Err stop) w w a b p q r0 r1
    stopped stop no_write no_line no_damage = record {
      replied = λ h. absurd (cc h);
      cut = λ h. absurd (no_write (cc h));
      lost = λ other kind h. let same : stop ≡ other = cc h in absurd (no_line (subst IsLineStop (sym same) kind));
      undamaged = λ device cell h. no_damage device cell (cc h);
      on_module = module_as_before;
      on_store = store_as_before;
      pairs = pairs_as_before;
      within_module = still_within (A.ModuleMay s) w.module_ m;
      within_store = still_within (A.StoreMay s) w.store d;
      spare = spare_still w m d;
      turns = λ h. absurd (⊎_elim (λ replied. cc replied) (λ cut. no_write (cc cut)) h);
      goes_on = tt;
    }

    pub line_unread : LineServed A s K (Err ReadFault) w w a b p q r0 r1
    line_unread = stopped ReadFault (λ h. cc h) (λ kind. kind) (λ device cell h. cc h)

    pub line_over : LineServed A s K (Err InputLimit) w w a b p q r0 r1
    line_over = stopped InputLimit (λ h. cc h) (λ kind. kind) (λ device cell h. cc h)

  pub moved : (u : Unit {0}) (line reply : List ℕ) (old new : World) → Serves A s K line (Ok u) reply old new → Moves A s K line (Ok u) reply old new
  moved u line reply old new serves = by_case serves.served
    where
      by_case : Moves A s K line (Ok u) reply old new ⊎ (⊥ × Stays A s old new) → Moves A s K line (Ok u) reply old new
      by_case (inl moves) = moves
      by_case (inr stopped) = absurd stopped.0

  pub leads_one : (result : Result (Unit {0}) Stop) (line reply : List ℕ) (old new : World) → (moves : Moves A s K line result reply old new)
      → LeadsOne A s old.random line moves.next
  leads_one result line reply old new moves =
      record { drawn = moves.drawn; front = front_of old.random new.random moves.drawn moves.consumed; reply = moves.answer; steps = moves.steps }

  pub around : (random : Option (List ℕ)) (line ahead rest : List ℕ) (next : A.State) (P : A.State → Type 0) → lines ahead ≡ line ∷ lines rest
      → LeadsOne A s random line next → Around A s line next P → IsAroundLine A s random ahead P
  around random line ahead rest next P first leads on = inr (line, rest, first, (next, leads, on))

  module _ (result : Result (Unit {0}) Stop) (taken : Taken) (now : Reading) (some : taken ≡ End → ⊥) (reply : List ℕ) (old new : World)
      (serves : (line : List ℕ) → IsTheLine taken now line → Serves A s K line result reply old new) where
    pub around_module : (r0 : Reading) (a b : Option (List ℕ)) → WhereTold a b (λ i r. Takes taken (r0.pending ++ i) now (now.pending ++ r))
        → WhereTold a b (λ i r. EachImage old.module_ new.module_ (λ c. IsAroundLine A s old.random (r0.pending ++ i) (λ t. A.InModule t c)))
    around_module r0 a b takes =
        told_weaker a b _ _
        (λ i r took.
        let here = line_taken taken (r0.pending ++ i) (now.pending ++ r) now some took in
        by_case (r0.pending ++ i) (now.pending ++ r) here.line here.takes.first (serves here.line here.is).served)
        takes
      where
        by_case : (ahead rest line : List ℕ) → lines ahead ≡ line ∷ lines rest → Moves A s K line result reply old new ⊎ (OnOk result ⊥ × Stays A s old new)
            → EachImage old.module_ new.module_ (λ c. IsAroundLine A s old.random ahead (λ t. A.InModule t c))
        by_case ahead rest line first (inl moves) =
            each_weaker old.module_ new.module_ _ _ moves.on_module
            (λ c on. around old.random line ahead rest moves.next (λ t. A.InModule t c) first (leads_one result line reply old new moves) on)
        by_case ahead rest line first (inr stays) = each_weaker old.module_ new.module_ _ _ stays.1.on_module (λ c h. inl h)

    pub around_store : (r0 : Reading) (a b : Option (List ℕ)) → WhereTold a b (λ i r. Takes taken (r0.pending ++ i) now (now.pending ++ r))
        → WhereTold a b (λ i r. EachImage old.store new.store (λ d. IsAroundLine A s old.random (r0.pending ++ i) (λ t. A.InStore t d)))
    around_store r0 a b takes =
        told_weaker a b _ _
        (λ i r took.
        let here = line_taken taken (r0.pending ++ i) (now.pending ++ r) now some took in
        by_case (r0.pending ++ i) (now.pending ++ r) here.line here.takes.first (serves here.line here.is).served)
        takes
      where
        by_case : (ahead rest line : List ℕ) → lines ahead ≡ line ∷ lines rest → Moves A s K line result reply old new ⊎ (OnOk result ⊥ × Stays A s old new)
            → EachImage old.store new.store (λ d. IsAroundLine A s old.random ahead (λ t. A.InStore t d))
        by_case ahead rest line first (inl moves) =
            each_weaker old.store new.store _ _ moves.on_store
            (λ c on. around old.random line ahead rest moves.next (λ t. A.InStore t c) first (leads_one result line reply old new moves) on)
        by_case ahead rest line first (inr stays) = each_weaker old.store new.store _ _ stays.1.on_store (λ c h. inl h)

    pub around_pairs : (r0 : Reading) (a b : Option (List ℕ)) → WhereTold a b (λ i r. Takes taken (r0.pending ++ i) now (now.pending ++ r))
        → WhereTold a b (λ i r. EachPair old.module_ new.module_ old.store new.store (λ c d. IsAroundLine A s old.random (r0.pending ++ i) (Both A c d)))
    around_pairs r0 a b takes =
        told_weaker a b _ _
        (λ i r took.
        let here = line_taken taken (r0.pending ++ i) (now.pending ++ r) now some took in
        by_case (r0.pending ++ i) (now.pending ++ r) here.line here.takes.first (serves here.line here.is).served)
        takes
      where
        by_case : (ahead rest line : List ℕ) → lines ahead ≡ line ∷ lines rest → Moves A s K line result reply old new ⊎ (OnOk result ⊥ × Stays A s old new)
            → EachPair old.module_ new.module_ old.store new.store (λ c d. IsAroundLine A s old.random ahead (Both A c d))
        by_case ahead rest line first (inl moves) = record {
          later1 = moves.pairs.later1;
          later2 = moves.pairs.later2;
          each = λ c d left right.
              around old.random line ahead rest moves.next (Both A c d) first (leads_one result line reply old new moves) (moves.pairs.each c d left right);
        }
        by_case ahead rest line first (inr stays) =
            each_pair old.module_ new.module_ old.store new.store _ _ _ stays.1.on_module stays.1.on_store (λ c d h k. inl (h, k))

    pub within_line : (May : List ℕ → List ℕ → List ℕ → Type 0) (m0 m1 : Medium) → ((line : List ℕ) → IsTheLine taken now line → EachImage m0 m1 (From (May line) m0))
        → (r0 : Reading) (a b : Option (List ℕ)) → WhereTold a b (λ i r. Takes taken (r0.pending ++ i) now (now.pending ++ r))
        → WhereTold a b (λ i r. EachImage m0 m1 (IsWithinLine May m0 (r0.pending ++ i)))
    within_line May m0 m1 within r0 a b takes =
        told_weaker a b _ _
        (λ i r took.
        let here = line_taken taken (r0.pending ++ i) (now.pending ++ r) now some took in
        each_weaker m0 m1 _ _ (within here.line here.is) (λ c from. inr (here.line, now.pending ++ r, here.takes.first, from)))
        takes

    pub within_module : (r0 : Reading) (a b : Option (List ℕ)) → WhereTold a b (λ i r. Takes taken (r0.pending ++ i) now (now.pending ++ r))
        → WhereTold a b (λ i r. EachImage old.module_ new.module_ (IsWithinLine (A.ModuleMay s) old.module_ (r0.pending ++ i)))
    within_module = within_line (A.ModuleMay s) old.module_ new.module_ (λ line is. (serves line is).within.on_module)

    pub within_store : (r0 : Reading) (a b : Option (List ℕ)) → WhereTold a b (λ i r. Takes taken (r0.pending ++ i) now (now.pending ++ r))
        → WhereTold a b (λ i r. EachImage old.store new.store (IsWithinLine (A.StoreMay s) old.store (r0.pending ++ i)))
    within_store = within_line (A.StoreMay s) old.store new.store (λ line is. (serves line is).within.on_store)

    pub keeps_spare : KeepsSpare old new
    keeps_spare = let here = some_line taken now some in within_spare A s here.0 old new (serves here.0 here.1).within

  module _ (taken : Taken) (now : Reading) (some : taken ≡ End → ⊥) (reply : List ℕ) (old new : World) (u : Unit {0})
      (serves : (line : List ℕ) → IsTheLine taken now line → Serves A s K line (Ok u) reply old new) where
    pub turned : Turns A old new
    turned = let here = some_line taken now some in (serves here.0 here.1).turns

    pub goes_on : (t : A.State) × Stands A t K new.module_ new.store
    goes_on =
        let here = some_line taken now some in
        let moves = moved u here.0 reply old new (serves here.0 here.1) in
        (moves.next, moves.stands)

    pub line_replied : (r0 : Reading) (a b p q : Option (List ℕ)) → WhereTold a b (λ i r. Takes taken (r0.pending ++ i) now (now.pending ++ r))
        → WhereTold p q (λ x y. y ≡ x ++ reply) → LineServed A s K (Ok Replied) old new a b p q r0 now
    line_replied r0 a b p q takes sent = record {
      replied = λ h. told_weaker a b _ _
          (λ i r took.
          let here = line_taken taken (r0.pending ++ i) (now.pending ++ r) now some took in
          let served = serves here.line here.is in
          let moves = moved u here.line reply old new served in
          record {
            line = here.line;
            takes = here.takes;
            drawn = moves.drawn;
            next = moves.next;
            reply = moves.answer;
            steps = moves.steps;
            consumed = moves.consumed;
            held = subst (λ (bytes : List ℕ). WhereTold p q (λ x y. y ≡ x ++ bytes)) moves.reply_is sent;
            stands = moves.stands;
            unwritten = moves.unwritten;
          })
          takes;
      cut = λ h. absurd (cc h);
      lost = λ stop kind h. absurd (cc h);
      undamaged = λ device cell h. cc h;
      on_module = around_module (Ok u) taken now some reply old new serves r0 a b takes;
      on_store = around_store (Ok u) taken now some reply old new serves r0 a b takes;
      pairs = around_pairs (Ok u) taken now some reply old new serves r0 a b takes;
      within_module = within_module (Ok u) taken now some reply old new serves r0 a b takes;
      within_store = within_store (Ok u) taken now some reply old new serves r0 a b takes;
      spare = keeps_spare (Ok u) taken now some reply old new serves;
      turns = λ h. turned;
      goes_on = goes_on;
    }

    pub line_cut : (r0 : Reading) (a b p q : Option (List ℕ)) → WhereTold a b (λ i r. Takes taken (r0.pending ++ i) now (now.pending ++ r))
        → WhereTold p q (λ x y. GotPart x y reply) → LineServed A s K (Err WriteFault) old new a b p q r0 now
    line_cut r0 a b p q takes sent = record {
      replied = λ h. absurd (cc h);
      cut = λ h. told_weaker a b _ _
          (λ i r took.
          let here = line_taken taken (r0.pending ++ i) (now.pending ++ r) now some took in
          let served = serves here.line here.is in
          let moves = moved u here.line reply old new served in
          record {
            line = here.line;
            takes = here.takes;
            drawn = moves.drawn;
            next = moves.next;
            reply = moves.answer;
            steps = moves.steps;
            consumed = moves.consumed;
            got = subst (λ (bytes : List ℕ). WhereTold p q (λ x y. GotPart x y bytes)) moves.reply_is sent;
            stands = moves.stands;
            unwritten = moves.unwritten;
          })
          takes;
      lost = λ stop kind h. absurd (no_line stop kind h);
      undamaged = λ device cell h. cc h;
      on_module = around_module (Ok u) taken now some reply old new serves r0 a b takes;
      on_store = around_store (Ok u) taken now some reply old new serves r0 a b takes;
      pairs = around_pairs (Ok u) taken now some reply old new serves r0 a b takes;
      within_module = within_module (Ok u) taken now some reply old new serves r0 a b takes;
      within_store = within_store (Ok u) taken now some reply old new serves r0 a b takes;
      spare = keeps_spare (Ok u) taken now some reply old new serves;
      turns = λ h. turned;
      goes_on = tt;
    }
      where
        no_line : (stop : Stop) → IsLineStop stop → ◌≡◌ {A = Result Served Stop} (Err WriteFault) (Err stop) → ⊥
        no_line stop kind h = let same : WriteFault ≡ stop = cc h in subst IsLineStop (sym same) kind

  module _ (taken : Taken) (now : Reading) (some : taken ≡ End → ⊥) (reply : List ℕ) (old new : World) (stop : Stop)
      (serves : (line : List ℕ) → IsTheLine taken now line → Serves A s K line (Err stop) reply old new) where
    pub stayed : Stays A s old new → EachPairStands A s new
    stayed stays = λ c d left right.
        (image_now old.module_ new.module_ (A.InModule s) stays.on_module c left, image_now old.store new.store (A.InStore s) stays.on_store d right)

    pub loses : (line ahead rest : List ℕ) (ended : Bool) → TakesLine ahead line rest ended → Serves A s K line (Err stop) reply old new
        → LosesLine A stop s old new ahead rest ended
    loses line ahead rest ended takes here = record {
      line = line;
      takes = takes;
      may_stop = here.stops.1;
      left = by_case here.served;
      undrawn = λ h. stayed (here.undrawn (ap Err h));
      unwritten = here.unwritten;
    }
      where
        by_case : Moves A s K line (Err stop) reply old new ⊎ (⊤ × Stays A s old new) → EachPairStands A s new ⊎ StandsAround A s line old.random [] new
        by_case (inl moves) = inr (record {
          drawn = moves.drawn;
          next = moves.next;
          reply = moves.answer;
          steps = moves.steps;
          consumed = moves.consumed;
          pairs = pairs_now old.module_ new.module_ old.store new.store (λ c d. Around A s line moves.next (Both A c d)) moves.pairs;
        })
        by_case (inr stays) = inl (stayed stays.1)

    pub is_line_stop : IsLineStop stop
    is_line_stop = let here = some_line taken now some in (serves here.0 here.1).stops.0

    pub line_lost : (r0 : Reading) (a b p q : Option (List ℕ)) → WhereTold a b (λ i r. Takes taken (r0.pending ++ i) now (now.pending ++ r))
        → LineServed A s K (Err stop) old new a b p q r0 now
    line_lost r0 a b p q takes = record {
      replied = λ h. absurd (cc h);
      cut = λ h. let same : stop ≡ WriteFault = cc h in absurd (subst IsLineStop same is_line_stop);
      lost = λ other kind h.
          let same : stop ≡ other = cc h in
          subst (λ (o : Stop). WhereTold a b (λ i r. LosesLine A o s old new (r0.pending ++ i) (now.pending ++ r) now.ended)) same
          (told_weaker a b _ _
          (λ i r took.
          let here = line_taken taken (r0.pending ++ i) (now.pending ++ r) now some took in
          loses here.line (r0.pending ++ i) (now.pending ++ r) now.ended here.takes (serves here.line here.is))
          takes);
      undamaged = λ device cell h. let same : stop ≡ Damaged device cell = cc h in subst IsLineStop same is_line_stop;
      on_module = around_module (Err stop) taken now some reply old new serves r0 a b takes;
      on_store = around_store (Err stop) taken now some reply old new serves r0 a b takes;
      pairs = around_pairs (Err stop) taken now some reply old new serves r0 a b takes;
      within_module = within_module (Err stop) taken now some reply old new serves r0 a b takes;
      within_store = within_store (Err stop) taken now some reply old new serves r0 a b takes;
      spare = keeps_spare (Err stop) taken now some reply old new serves;
      turns = λ h. absurd (⊎_elim (λ replied. cc replied) (λ cut. let same : stop ≡ WriteFault = cc cut in subst IsLineStop same is_line_stop) h);
      goes_on = tt;
    }

-- ---- the line that the buffer shows

pub short_line : (taken : Taken) (r : Reading) (text : List ℕ) → taken ≡ Line → Shows taken r → text ≡ r.line → length text ≤ line_limit
short_line taken r text is shown same = let parts = subst (λ (t : Taken). Shows t r) is shown in subst (λ (l : List ℕ). length l ≤ line_limit) (sym same) parts.1

pub line_serves : (A : Machine) (s : A.State) (K : A.State → Type 0) (taken : Taken) (r : Reading) (text line : List ℕ) → taken ≡ Line → text ≡ r.line → IsTheLine taken r line
    → (q : Result (Unit {0}) Stop) (reply : List ℕ) (w0 w1 : World) → Serves A s K text q reply w0 w1 → Serves A s K line q reply w0 w1
line_serves A s K taken r text line is same shown q reply w0 w1 serves =
    let there : line ≡ r.line = subst (λ (t : Taken). IsTheLine t r line) is shown in
    subst (λ (l : List ℕ). Serves A s K l q reply w0 w1) (same ∙ sym there) serves
