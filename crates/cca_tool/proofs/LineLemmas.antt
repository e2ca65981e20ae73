-- What comes of one line.
use Rattle.std.proofs.Common.{◌≡◌, ℕ, ◌<◌, ◌≤◌, List, [], length, take, Option, None, Some, Result, Ok, Err, codes, refl, sym, ap, ◌∙◌, subst, inl, inr, ⊎_elim}
use Rattle.std.specs.Prelude.{⊤, ◌⊎◌, OnOk, IfErr, IsTrue}
use Rattle.std.proofs.lemmas.List.{append-nil}
use Rattle.std.proofs.Math.Seq.{take-nil}
use Rattle.device_cells.specs.Medium.{Medium, IsSettled, From, Becomes, EachImage}
use Rattle.device_cells.specs.SpareBytes.{Turned}
use Rattle.device_cells.proofs.Media.{each_weaker, image_now}
use Rattle.line_service.specs.Reading.{line_limit}
use Rattle.line_service.specs.Replies.{Refused, spelled}
use Rattle.verb_script.specs.Grammar.{Request, Spells}
use Rattle.verb_script.specs.Requests.{request_of}
use Rattle.cca_machine.specs.State.{State, IsModuleOf, IsStoreOf}
use Rattle.cca_machine.specs.Operands.{needs_store}
use Rattle.cca_machine.specs.Verdict.{Refusal, verdict}
use Rattle.cca_machine.specs.Act.{Cells, NoCell, Outcome, or_act, performed}
use Rattle.cca_machine.specs.Lines.{LineOutcome, MayDraw, taken_by, line_outcome}
use Rattle.cca_machine.proofs.DrawLaws.{early_some, verdict_empty}
use Rattle.cca_machine.proofs.LineLaws.{line-no_request, line-too_long, line-request, line-drawn}
use Rattle.request_rules.specs.Standing.{Tables, Stands as StandsFor}
use Rattle.cca_requests.specs.Serving.{Serves as Performs, IsDone, IsAround, IsEither, IsFault, SameBut}
use Rattle.cca_machine.specs.Deciding.{HasDrawn}
use Rattle.line_service.specs.Answering.{Holds, Stands, Steps, Around, Both, Moves, Stays, Serves, Unwritten, WritesWithin, Turns}
use Rattle.line_service.specs.Machine.{World, world}
use Rattle.line_service.specs.Stops.{IsLineStop}
use Rattle.line_service.specs.declared.stops.Device.TheVariants.{Store}
use Rattle.line_service.specs.declared.stops.Stop.{Stop}
use Rattle.line_service.specs.declared.stops.Stop.TheVariants.{ReadFault, WriteFault, EntropyFault, ModuleFault, StoreFault, Damaged, InputLimit}
use Rattle.line_service.proofs.LineLemmas.{refused_serves, still_has}
use Rattle.cca_machine.specs.Coprocessor.{cca, IsRefusal, MayFail}
use Rattle.store_unload.specs.Opening.{remembers}
use Rattle.cca_tool.proofs.BetweenLemmas.{between_is}
use Rattle.cca_tool.proofs.KnownLemmas.{stands_as}

-- ---- lines that are refused without a look at a disk

refused_steps : (s : State) (line reply : List ℕ) (rule : ℕ)
    → ((random : List ℕ) → line_outcome s random line ≡ record { state = s; reply = Refused rule (codes "-"); random = random })
    → reply ≡ spelled (Refused rule (codes "-")) → Steps cca s line [] s reply
refused_steps s line reply rule comes is = λ rest.
    ap (λ (o : LineOutcome). record { state = o.state; reply = spelled o.reply; random = o.random }) (comes rest)
    ∙ ap (λ (bytes : List ℕ). record { state = s; reply = bytes; random = rest }) (sym is)

pub long_steps : (s : State) (line reply : List ℕ) → line_limit < length line → reply ≡ spelled (Refused 2 (codes "-")) → Steps cca s line [] s reply
long_steps s line reply long is = refused_steps s line reply 2 (λ random. line-too_long s random line long) is

pub unspelled_serves : (s : State) (K : State → Type 0) (line reply : List ℕ) (m d : Medium) (e : Option (List ℕ)) → length line ≤ line_limit → request_of line ≡ None
    → reply ≡ spelled (Refused 1 (codes "-")) → Stands cca s K m d → IsSettled m → IsSettled d
    → Serves cca s K line (Ok tt) reply (world m d e) (world m d e)
unspelled_serves s K line reply m d e short none is stands settled_m settled_d =
    refused_serves cca s K line reply (world m d e) (refused_steps s line reply 1 (λ random. line-no_request s random line short none) is)
    stands settled_m settled_d

-- ---- requests

-- a refused request writes no cell
abbrev WritesNone : Outcome → Type 0
WritesNone o = (o.module_cells ≡ NoCell) × (o.store_cells ≡ NoCell)

refused_by : (o : Option Refusal) (s : State) (r : Request) (drawn : List ℕ) → IsRefusal (or_act o s drawn r).reply → (refusal : Refusal) × (o ≡ Some refusal)
refused_by (Some refusal) s r drawn is = (refusal, refl)
refused_by None s r drawn is = absurd is

refused_verdict : (s : State) (r : Request) (drawn : List ℕ) → IsRefusal (performed s drawn r).reply → (refusal : Refusal) × (verdict s drawn r ≡ Some refusal)
unfolding performed
refused_verdict s r drawn is = refused_by (verdict s drawn r) s r drawn is

refusal_writes : (s : State) (r : Request) (drawn : List ℕ) (refusal : Refusal) → verdict s drawn r ≡ Some refusal → WritesNone (performed s drawn r)
unfolding performed
refusal_writes s r drawn refusal is = subst (λ (v : Option Refusal). WritesNone (or_act v s drawn r)) (sym is) (refl, refl)

-- what is refused though no random byte comes is refused whatever random bytes come
always_refused : (s : State) (r : Request) (n : ℕ) (drawn : List ℕ) → IsRefusal (performed s (take n []) r).reply → WritesNone (performed s drawn r)
always_refused s r n drawn is =
    let here = refused_verdict s r [] (subst (λ (bytes : List ℕ). IsRefusal (performed s bytes r).reply) (take-nil n) is) in
    refusal_writes s r drawn here.0 (early_some s drawn r here.0 (sym (verdict_empty s r) ∙ here.1))

-- a disk of which no cell is written
kept_images : (cells : Cells) (m0 m1 : Medium) → cells ≡ NoCell → EachImage m0 m1 (From (SameBut cells) m0) → EachImage m0 m1 m0.images
kept_images cells m0 m1 none outside =
    each_weaker m0 m1 (From (SameBut NoCell) m0) m0.images (subst (λ (x : Cells). EachImage m0 m1 (From (SameBut x) m0)) none outside)
    (λ c from. subst m0.images (sym from.2) (m0.is_image from.0 from.1))

module _ (s : State) (line : List ℕ) (r : Request) (short : length line ≤ line_limit) (spells : request_of line ≡ Some r) where
  steps : (drawn : List ℕ) → length drawn ≡ taken_by s drawn r → Steps cca s line drawn (performed s drawn r).state (spelled (performed s drawn r).reply)
  steps drawn size = λ rest.
      ap (λ (o : LineOutcome). record { state = o.state; reply = spelled o.reply; random = o.random }) (line-drawn s drawn rest line r short spells size)

  undrawn_writes : (drawn : List ℕ) → IsRefusal (line_outcome s [] line).reply → WritesNone (performed s drawn r)
  undrawn_writes drawn refuses =
      always_refused s r (taken_by s [] r) drawn (subst (λ (o : LineOutcome). IsRefusal o.reply) (line-request s [] line r short spells) refuses)

  -- refused with exactly the random bytes that it took
  refused_writes : (drawn : List ℕ) → length drawn ≡ taken_by s drawn r → IsRefusal (line_outcome s drawn line).reply → WritesNone (performed s drawn r)
  refused_writes drawn size refuses =
      let here = refused_verdict s r drawn
      (subst (λ (o : LineOutcome). IsRefusal o.reply) (line-drawn s drawn [] line r short spells size)
      (subst (λ (bytes : List ℕ). IsRefusal (line_outcome s bytes line).reply) (sym (append-nil drawn)) refuses)) in
      refusal_writes s r drawn here.0 here.1

  -- a state before a request or after it, or one on the way of a permitted REENCIPHER
  around : Spells r line → (drawn : List ℕ) (P : State → Type 0) → IsAround s (performed s drawn r) P → Around cca s line (performed s drawn r).state P
  around found drawn P (inl same) = inl same
  around found drawn P (inr (inl next)) = inr (inl next)
  around found drawn P (inr (inr between)) = ⊎_elim
      (λ still. inl (subst P still between.2))
      (λ renewing. inr (inr ((performed s drawn r).between between.0, renewing, between.2)))
      (between_is s line r drawn between.0 between.1 found)

  -- the stops of a request over disks that stand for a state
  of_stop : (stop : Stop) → IsFault stop → Spells r line → (stop ≡ EntropyFault → MayDraw s r)
      → (stop ≡ StoreFault → IsTrue (needs_store r)) → IsLineStop stop × MayFail stop s line
  of_stop ModuleFault fault found draws names = (tt, (r, found))
  of_stop StoreFault fault found draws names = (tt, record { request = r; spelled = found; needs = names refl })
  of_stop EntropyFault fault found draws names = (tt, record { request = r; spelled = found; draws = draws refl })
  of_stop ReadFault fault found draws names = absurd fault
  of_stop WriteFault fault found draws names = absurd fault
  of_stop InputLimit fault found draws names = absurd fault
  of_stop (Damaged device cell) fault found draws names = absurd fault

  line_stop : (u : Result (Unit {0}) Stop) → IfErr u IsFault → Spells r line → (u ≡ Err EntropyFault → MayDraw s r)
      → (u ≡ Err StoreFault → IsTrue (needs_store r)) → IfErr u (λ stop. IsLineStop stop × MayFail stop s line)
  line_stop (Ok done) faults found draws names = tt
  line_stop (Err stop) faults found draws names = of_stop stop faults found (λ is. draws (ap Err is)) (λ is. names (ap Err is))

  module _ (result : Result (Unit {0}) Stop) (reply : List ℕ) (before after : Tables) (m0 m1 d0 d1 : Medium) (e0 e1 : Option (List ℕ))
      (settled_m : IsSettled m0) (settled_d : IsSettled d0) (standing : Stands cca s (remembers before) m0 d0) where
    stands_after : (o : Outcome) (u : Result (Unit {0}) Stop) → OnOk u (IsDone o reply after m1 d1) → OnOk u (Stands cca o.state (remembers after) m1 d1)
    stands_after o (Ok done) is = stands_as o.state after m1 d1 is.stands
    stands_after o (Err stop) is = tt

    reply_at : (o : Outcome) (u : Result (Unit {0}) Stop) → OnOk u (IsDone o reply after m1 d1) → OnOk u (reply ≡ spelled o.reply)
    reply_at o (Ok done) is = is.reply_is
    reply_at o (Err stop) is = tt

    -- nothing was written: each image stands for the state
    stays_of : (a b : Medium) (P : List ℕ → Type 0) → IsSettled a → Holds a P → EachImage a b a.images → EachImage a b P
    stays_of a b P settled holds still = each_weaker a b a.images P still (λ c among. image_now a a P (still_has a P holds settled) c among)

    stays : Unwritten (world m0 d0 e0) (world m1 d1 e1) → Stays cca s (world m0 d0 e0) (world m1 d1 e1)
    stays unwritten = record {
      on_module = stays_of m0 m1 (IsModuleOf s) settled_m standing.disks.in_module unwritten.on_module;
      on_store = stays_of d0 d1 (IsStoreOf s) settled_d standing.disks.in_store unwritten.on_store;
    }

    -- of a request that is refused no cell is written
    unwritten : (o : Outcome) → WritesNone o → EachImage m0 m1 (From (SameBut o.module_cells) m0) → EachImage d0 d1 (From (SameBut o.store_cells) d0)
        → Unwritten (world m0 d0 e0) (world m1 d1 e1)
    unwritten o none on_module on_store = record {
      on_module = kept_images o.module_cells m0 m1 none.0 on_module;
      on_store = kept_images o.store_cells d0 d1 none.1 on_store;
    }

    moves : Spells r line → (performs : Performs s r result reply after (world m0 d0 e0) (world m1 d1 e1))
        → HasDrawn performs.drawn (taken_by s performs.drawn r) e0 e1
        → Moves cca s (remembers after) line result reply (world m0 d0 e0) (world m1 d1 e1)
    moves found performs random =
        let o = performed s performs.drawn r in
        let carries = performs.carries in
        record {
          drawn = performs.drawn;
          next = o.state;
          answer = spelled o.reply;
          steps = steps performs.drawn random.size;
          consumed = random.consumed;
          reply_is = reply_at o result carries.done;
          stands = stands_after o result carries.done;
          on_module = each_weaker m0 m1 (IsEither IsModuleOf s o) _ carries.on_module (λ c is. around found performs.drawn (λ t. IsModuleOf t c) is);
          on_store = each_weaker d0 d1 (IsEither IsStoreOf s o) _ carries.on_store (λ d is. around found performs.drawn (λ t. IsStoreOf t d) is);
          pairs = record {
            later1 = performs.pairs.later1;
            later2 = performs.pairs.later2;
            each = λ c d first second. around found performs.drawn (Both cca c d) (performs.pairs.each c d first second);
          };
          unwritten = λ refuses. unwritten o (refused_writes performs.drawn random.size refuses) carries.module_outside carries.store_outside;
        }

    served : Spells r line → (performs : Performs s r result reply after (world m0 d0 e0) (world m1 d1 e1))
        → HasDrawn performs.drawn (taken_by s performs.drawn r) e0 e1 ⊎ (OnOk result ⊥ × Unwritten (world m0 d0 e0) (world m1 d1 e1))
        → Moves cca s (remembers after) line result reply (world m0 d0 e0) (world m1 d1 e1) ⊎ (OnOk result ⊥ × Stays cca s (world m0 d0 e0) (world m1 d1 e1))
    served found performs (inl random) = inl (moves found performs random)
    served found performs (inr stopped) = inr (stopped.0, stays stopped.1)

    within : Spells r line → Performs s r result reply after (world m0 d0 e0) (world m1 d1 e1) → WritesWithin cca s line (world m0 d0 e0) (world m1 d1 e1)
    within found performs = record {
      on_module = each_weaker m0 m1 _ _ performs.carries.module_outside (λ c from. (from.0, from.1, inr (r, performs.drawn, found, from.2)));
      on_store = each_weaker d0 d1 _ _ performs.carries.store_outside (λ d from. (from.0, from.1, inr (r, performs.drawn, found, from.2)));
    }

    turns : (u : Result (Unit {0}) Stop) → OnOk u (Becomes (Turned 33) m0 m1) → OnOk u (Becomes (Turned 1024) d0 d1) → OnOk u (Turns cca (world m0 d0 e0) (world m1 d1 e1))
    turns (Ok done) on_module on_store = record { on_module = on_module; on_store = on_store }
    turns (Err stop) on_module on_store = tt

    pub request_serves : Spells r line → (result ≡ Err StoreFault → IsTrue (needs_store r))
        → OnOk result (Becomes (Turned 33) m0 m1) → OnOk result (Becomes (Turned 1024) d0 d1)
        → Performs s r result reply after (world m0 d0 e0) (world m1 d1 e1)
        → Serves cca s (remembers after) line result reply (world m0 d0 e0) (world m1 d1 e1)
    request_serves found names module_turned store_turned performs = record {
      within = within found performs;
      turns = turns result module_turned store_turned;
      served = served found performs performs.random;
      stops = line_stop result performs.carries.stops found performs.permitted names;
      undrawn = λ h. stays (performs.undrawn h);
      unwritten = λ refuses.
          unwritten (performed s performs.drawn r) (undrawn_writes performs.drawn refuses) performs.carries.module_outside performs.carries.store_outside;
    }

-- a request that was answered leads to disks that stand for the state after it
pub leads_on : (s : State) (r : Request) (result : Result (Unit {0}) Stop) (reply : List ℕ) (later : Tables) (m0 m1 d0 d1 : Medium) (e0 e1 : Option (List ℕ))
    → Performs s r result reply later (world m0 d0 e0) (world m1 d1 e1) → OnOk result ((next : State) × StandsFor next later m1 d1)
leads_on s r (Ok done) reply later m0 m1 d0 d1 e0 e1 performs = ((performed s performs.drawn r).state, performs.carries.done.stands)
leads_on s r (Err stop) reply later m0 m1 d0 d1 e0 e1 performs = tt

-- damage doesn't come over disks that stand for a state
pub not_damaged : (s : State) (r : Request) (result : Result (Unit {0}) Stop) (reply : List ℕ) (later : Tables) (m0 m1 d0 d1 : Medium) (e0 e1 : Option (List ℕ)) (cell : ℕ)
    → result ≡ Err (Damaged Store cell) → Performs s r result reply later (world m0 d0 e0) (world m1 d1 e1) → ⊥
not_damaged s r result reply later m0 m1 d0 d1 e0 e1 cell is performs = subst (λ (u : Result (Unit {0}) Stop). IfErr u IsFault) is performs.carries.stops

-- ---- a line at which a device failed

-- whatever the reply buffer holds then
pub silent_serves : (s : State) (K : State → Type 0) (line : List ℕ) (stop : Stop) (reply other : List ℕ) (old new : World)
    → Serves cca s K line (Err stop) reply old new → Serves cca s K line (Err stop) other old new
silent_serves s K line stop reply other old new serves = record {
  served = by_case serves.served;
  stops = serves.stops;
  undrawn = serves.undrawn;
  unwritten = serves.unwritten;
  within = serves.within;
  turns = tt;
}
  where
    by_case : Moves cca s K line (Err stop) reply old new ⊎ (⊤ × Stays cca s old new) → Moves cca s K line (Err stop) other old new ⊎ (⊤ × Stays cca s old new)
    by_case (inl moves) = inl (record {
      drawn = moves.drawn;
      next = moves.next;
      answer = moves.answer;
      steps = moves.steps;
      consumed = moves.consumed;
      reply_is = tt;
      stands = tt;
      on_module = moves.on_module;
      on_store = moves.on_store;
      pairs = moves.pairs;
      unwritten = moves.unwritten;
    })
    by_case (inr stays) = inr stays
