-- How what is said of the disks is carried from call to call.
use Rattle.std.proofs.Common.{◌≡◌, ℕ, Bool, List, [], Option, Some, Result, Ok, Err, refl, sym, ap, ◌∙◌, subst, inl, inr, ⊎_elim}
use Rattle.std.specs.Prelude.{OnOk, IfErr, IsSome}
use Rattle.device_cells.specs.Medium.{Medium, IsSettled, From, EachImage, EachPair, Keeps}
use Rattle.device_cells.proofs.Media.{goes_on, settled_image, each_weaker, each_pair, keeps_still, settled_kept}
use Rattle.line_service.specs.Replies.{spelled, Refused}
use Rattle.cca_roles.specs.declared.roles.Role.{Role}
use Rattle.record_bodies.specs.StoreStands.{Agrees}
use Rattle.record_bodies.specs.declared.rows.Row.{Row}
use Rattle.line_service.specs.declared.stops.Stop.{Stop}
use Rattle.verb_rules.specs.Keys.{keys_of}
use Rattle.verb_script.specs.Grammar.{Request}
use Rattle.cca_machine.specs.State.{State, IsModuleOf, IsStoreOf}
use Rattle.cca_machine.specs.Verdict.{Refusal, early_verdict, verb_verdict, verdict, verdict_by, whole_verb_verdict}
use Rattle.cca_machine.specs.Act.{Outcome, Cells, NoCell, OneCell, or_act, performed, ChangedCells}
use Rattle.cca_machine.specs.Draws.{bytes_drawn, draw_of}
use Rattle.cca_machine.specs.Lines.{MayDraw, drawn_where, taken_by}
use Rattle.line_service.specs.declared.stops.Stop.TheVariants.{EntropyFault}
use Rattle.line_service.specs.Answering.{Holds, Unwritten}
use Rattle.line_service.specs.Machine.{world}
use Rattle.std.proofs.KnownBytes.{Consumes-nil}
use Rattle.request_rules.specs.Standing.{Tables, tables, StandsInModule, StandsInStore, Stands}
use Rattle.cca_requests.specs.Serving.{IsEither, ArePair, SameButCell, SameBut, IsFault, IsDoneInModule, CarriesModule, IsDoneInStore, CarriesStore, IsDone, Carries, Serves}
use Rattle.key_cells.specs.Bench.{Bench}
use Rattle.cca_machine.specs.Keys.{any_old}
use Rattle.cca_machine.specs.Operands.{Operands, listed}
use Rattle.cca_machine.specs.Granted.{AreGranted, any_old_key}
use Rattle.cca_machine.specs.declared.granted.Granted.{Granted}
use Rattle.cca_machine.specs.Deciding.{Decides, HasDrawn, IsDecided}
use Rattle.cca_machine.specs.declared.effects.Effect.{Effect as CodeEffect}
use Rattle.cca_machine.proofs.Acting.{any_old_are}
use Rattle.line_service.proofs.OpeningLemmas.{holds_told}

-- ---- one disk

pub told_some : (m : Medium) (image : List ℕ) → m.content ≡ Some image → IsSome m.content
told_some m image told = subst IsSome (sym told) refl

same_but_cell : (cell : ℕ) (c : List ℕ) → SameButCell cell c c
same_but_cell cell c = record {
  outside = record { size = refl; before = λ k h. refl; after = λ k h. refl };
  others = λ n h. refl;
  untouched = λ k h. refl;
}

same_but : (cells : Cells) (c : List ℕ) → SameBut cells c c
same_but NoCell c = refl
same_but (OneCell cell) c = same_but_cell cell c
same_but (ChangedCells a labels) c = record { size = refl; same = λ k h. refl }

-- a call that only reads a settled disk which holds P
pub read_images : (m0 m1 : Medium) (P Q : List ℕ → Type 0) → IsSettled m0 → Holds m0 P → Keeps m0 m1 → ((c : List ℕ) → P c → Q c) → EachImage m0 m1 Q
read_images m0 m1 P Q settled holds keeps weaker =
    each_weaker m0 m1 m0.images Q keeps.moments (λ c image. weaker c (settled_image m0 P c settled (holds_told m0 P holds) image))

-- a call that does nothing
pub still_images : (m : Medium) (P Q : List ℕ → Type 0) → IsSettled m → Holds m P → ((c : List ℕ) → P c → Q c) → EachImage m m Q
still_images m P Q settled holds weaker = read_images m m P Q settled holds (keeps_still m) weaker

pub read_outside : (cells : Cells) (m0 m1 : Medium) → IsSettled m0 → Keeps m0 m1 → EachImage m0 m1 (From (SameBut cells) m0)
read_outside cells m0 m1 settled keeps =
    each_weaker m0 m1 m0.images (From (SameBut cells) m0) keeps.moments (λ c image. (c, settled.only c image, same_but cells c))

pub holds_kept : (m0 m1 : Medium) (P : List ℕ → Type 0) → Keeps m0 m1 → Holds m0 P → Holds m1 P
holds_kept m0 m1 P keeps holds = record { image = holds.image; told = keeps.content ∙ holds.told; has = holds.has }

-- a call that reads, and another one behind it
after_read : (m0 m1 m2 : Medium) (P Q : List ℕ → Type 0) → IsSettled m0 → Holds m0 P → Keeps m0 m1 → ((c : List ℕ) → P c → Q c)
    → EachImage m1 m2 Q → EachImage m0 m2 Q
after_read m0 m1 m2 P Q settled holds keeps weaker moments =
    goes_on m0 m1 m2 Q Q Q (read_images m0 m1 P Q settled holds keeps weaker) moments (λ c q. q) (λ c q. q)

outside_after_read : (cells : Cells) (m0 m1 m2 : Medium) → IsSettled m0 → Keeps m0 m1 → EachImage m1 m2 (From (SameBut cells) m1) → EachImage m0 m2 (From (SameBut cells) m0)
outside_after_read cells m0 m1 m2 settled keeps outside =
    goes_on m0 m1 m2 (From (SameBut cells) m0) (From (SameBut cells) m1) (From (SameBut cells) m0)
    (read_outside cells m0 m1 settled keeps) outside (λ c p. p) (λ c from. (from.0, sym keeps.content ∙ from.1, from.2))

unwritten_after_read : (m0 m1 m2 : Medium) → Keeps m0 m1 → EachImage m1 m2 m1.images → EachImage m0 m2 m0.images
unwritten_after_read m0 m1 m2 keeps later = goes_on m0 m1 m2 m0.images m1.images m0.images keeps.moments later (λ c p. p) (λ c p. keeps.images c p)

-- ---- what stands

pub module_kept : (s : State) (roles : List (Option Role)) (m0 m1 : Medium) → Keeps m0 m1 → StandsInModule s roles m0 → StandsInModule s roles m1
module_kept s roles m0 m1 keeps stands = record {
  in_module = holds_kept m0 m1 (IsModuleOf s) keeps stands.in_module;
  memory = stands.memory;
}

pub store_kept : (s : State) (rows : List (Option Row)) (d0 d1 : Medium) → Keeps d0 d1 → StandsInStore s rows d0 → StandsInStore s rows d1
store_kept s rows d0 d1 keeps stands = record {
  in_store = holds_kept d0 d1 (IsStoreOf s) keeps stands.in_store;
  agrees = stands.agrees;
}

pub stands_kept : (s : State) (t : Tables) (m0 m1 d0 d1 : Medium) → Keeps m0 m1 → Keeps d0 d1 → Stands s t m0 d0 → Stands s t m1 d1
stands_kept s t m0 m1 d0 d1 keeps_module keeps_store stands = record {
  on_module = module_kept s t.roles m0 m1 keeps_module stands.on_module;
  on_store = store_kept s t.rows d0 d1 keeps_store stands.on_store;
}

-- ---- a call

module _ (o : Outcome) (s : State) (result : Result (Unit {0}) Stop) (reply : List ℕ) where
  -- nothing was written: the state stays
  pub still_module : (roles : List (Option Role)) (m : Medium) → o.state ≡ s → OnOk result (reply ≡ spelled o.reply) → IfErr result IsFault
      → IsSettled m → StandsInModule s roles m → CarriesModule o s result reply roles m m
  still_module roles m same text stops settled stands = record {
    done = done_at result text;
    moments = still_images m (IsModuleOf s) (IsEither IsModuleOf s o) settled stands.in_module (λ c p. inl p);
    outside = read_outside o.module_cells m m settled (keeps_still m);
    stops = stops;
  }
    where
      done_at : (r : Result (Unit {0}) Stop) → OnOk r (reply ≡ spelled o.reply) → OnOk r (IsDoneInModule o reply roles m)
      done_at (Ok u) says = record { reply_is = says; stands = rw same stands }
      done_at (Err stop) says = tt

  pub still_store : (rows : List (Option Row)) (d : Medium) → o.state ≡ s → OnOk result (reply ≡ spelled o.reply) → IfErr result IsFault
      → IsSettled d → StandsInStore s rows d → CarriesStore o s result reply rows d d
  still_store rows d same text stops settled stands = record {
    done = done_at result text;
    moments = still_images d (IsStoreOf s) (IsEither IsStoreOf s o) settled stands.in_store (λ c p. inl p);
    outside = read_outside o.store_cells d d settled (keeps_still d);
    stops = stops;
  }
    where
      done_at : (r : Result (Unit {0}) Stop) → OnOk r (reply ≡ spelled o.reply) → OnOk r (IsDoneInStore o reply rows d)
      done_at (Ok u) says = record { reply_is = says; stands = rw same stands }
      done_at (Err stop) says = tt

  pub still_carries : (t : Tables) (m d : Medium) → o.state ≡ s → OnOk result (reply ≡ spelled o.reply) → IfErr result IsFault
      → IsSettled m → IsSettled d → Stands s t m d → Carries o s result reply t m m d d
  still_carries t m d same text stops settled_module settled_store stands = record {
    done = done_at result text;
    on_module = still_images m (IsModuleOf s) (IsEither IsModuleOf s o) settled_module stands.on_module.in_module (λ c p. inl p);
    on_store = still_images d (IsStoreOf s) (IsEither IsStoreOf s o) settled_store stands.on_store.in_store (λ c p. inl p);
    one_disk = inr (inr (
      still_images m (IsModuleOf s) (IsModuleOf s) settled_module stands.on_module.in_module (λ c p. p),
      still_images d (IsStoreOf s) (IsStoreOf s) settled_store stands.on_store.in_store (λ c p. p),
    ));
    module_outside = read_outside o.module_cells m m settled_module (keeps_still m);
    store_outside = read_outside o.store_cells d d settled_store (keeps_still d);
    stops = stops;
  }
    where
      done_at : (r : Result (Unit {0}) Stop) → OnOk r (reply ≡ spelled o.reply) → OnOk r (IsDone o reply t m d)
      done_at (Ok u) says = record { reply_is = says; stands = rw same stands }
      done_at (Err stop) says = tt

  -- the module alone was written: what stood for the labels still does
  pub module_carries : (roles : List (Option Role)) (rows now : List (Option Row)) (m0 m1 d : Medium) → CarriesModule o s result reply roles m0 m1
      → ((c : List ℕ) → IsStoreOf s c → IsStoreOf o.state c) → ((cell : ℕ) → o.between cell ≡ s) → OnOk result (Agrees (keys_of o.state.registers) now o.state.labels)
      → IsSettled d → StandsInStore s rows d → Carries o s result reply (tables roles now) m0 m1 d d
  module_carries roles rows now m0 m1 d carries goes between agrees settled stands = record {
    done = done_at result carries.done agrees;
    on_module = carries.moments;
    on_store = still_images d (IsStoreOf s) (IsEither IsStoreOf s o) settled stands.in_store (λ c p. inl p);
    one_disk = inr (inl (
      still_images d (IsStoreOf s) (IsStoreOf s) settled stands.in_store (λ c p. p),
      λ c p. (goes c p, λ cell. subst (λ (t : State). IsStoreOf t c) (sym (between cell)) p),
    ));
    module_outside = carries.outside;
    store_outside = read_outside o.store_cells d d settled (keeps_still d);
    stops = carries.stops;
  }
    where
      done_at : (r : Result (Unit {0}) Stop) → OnOk r (IsDoneInModule o reply roles m1) → OnOk r (Agrees (keys_of o.state.registers) now o.state.labels)
          → OnOk r (IsDone o reply (tables roles now) m1 d)
      done_at (Ok u) done agrees = record {
        reply_is = done.reply_is;
        stands = record {
          on_module = done.stands;
          on_store = record {
            in_store = record { image = stands.in_store.image; told = stands.in_store.told; has = goes stands.in_store.image stands.in_store.has };
            agrees = agrees;
          };
        };
      }
      done_at (Err stop) done agrees = tt

  -- the store alone was written: what stood for the registers and the roles still does
  pub store_carries : (roles : List (Option Role)) (rows : List (Option Row)) (m d0 d1 : Medium) → CarriesStore o s result reply rows d0 d1
      → o.state.registers ≡ s.registers → o.state.roles ≡ s.roles
      → ((cell : ℕ) → ((o.between cell).registers ≡ s.registers) × ((o.between cell).roles ≡ s.roles))
      → IsSettled m → StandsInModule s roles m → Carries o s result reply (tables roles rows) m m d0 d1
  store_carries roles rows m d0 d1 carries registers same_roles between settled stands = record {
    done = done_at result carries.done;
    on_module = still_images m (IsModuleOf s) (IsEither IsModuleOf s o) settled stands.in_module (λ c p. inl p);
    on_store = carries.moments;
    one_disk = inl (
      still_images m (IsModuleOf s) (IsModuleOf s) settled stands.in_module (λ c p. p),
      λ c p. (goes c p, λ cell. same_module (o.between cell) (between cell).0 (between cell).1 c p),
    );
    module_outside = read_outside o.module_cells m m settled (keeps_still m);
    store_outside = carries.outside;
    stops = carries.stops;
  }
    where
      same_module : (t : State) → t.registers ≡ s.registers → t.roles ≡ s.roles → (c : List ℕ) → IsModuleOf s c → IsModuleOf t c
      same_module t registers_are roles_are c p = record { registers = rw registers_are p.registers; roles = rw roles_are p.roles }

      goes : (c : List ℕ) → IsModuleOf s c → IsModuleOf o.state c
      goes = same_module o.state registers same_roles

      done_at : (r : Result (Unit {0}) Stop) → OnOk r (IsDoneInStore o reply rows d1) → OnOk r (IsDone o reply (tables roles rows) m d1)
      done_at (Ok u) done = record {
        reply_is = done.reply_is;
        stands = record {
          on_module = record {
            in_module = record { image = stands.in_module.image; told = stands.in_module.told; has = goes stands.in_module.image stands.in_module.has };
            memory = stands.memory ∙ sym same_roles;
          };
          on_store = done.stands;
        };
      }
      done_at (Err stop) done = tt

  -- both disks were read before
  pub carries_after_reads : (before t : Tables) (m0 m1 m2 d0 d1 d2 : Medium) → IsSettled m0 → IsSettled d0 → Stands s before m0 d0
      → Keeps m0 m1 → Keeps d0 d1 → Carries o s result reply t m1 m2 d1 d2 → Carries o s result reply t m0 m2 d0 d2
  carries_after_reads before t m0 m1 m2 d0 d1 d2 settled_module settled_store stands keeps_module keeps_store carries = record {
    done = carries.done;
    on_module = after_read m0 m1 m2 (IsModuleOf s) (IsEither IsModuleOf s o) settled_module in_module keeps_module (λ c p. inl p) carries.on_module;
    on_store = after_read d0 d1 d2 (IsStoreOf s) (IsEither IsStoreOf s o) settled_store in_store keeps_store (λ c p. inl p) carries.on_store;
    one_disk = ⊎_elim
        (λ rests. inl (of_module rests.0, rests.1))
        (λ rest. ⊎_elim
        (λ rests. inr (inl (of_store rests.0, rests.1)))
        (λ none. inr (inr (of_module none.0, of_store none.1)))
        rest)
        carries.one_disk;
    module_outside = outside_after_read o.module_cells m0 m1 m2 settled_module keeps_module carries.module_outside;
    store_outside = outside_after_read o.store_cells d0 d1 d2 settled_store keeps_store carries.store_outside;
    stops = carries.stops;
  }
    where
      in_module : Holds m0 (IsModuleOf s)
      in_module = stands.on_module.in_module

      in_store : Holds d0 (IsStoreOf s)
      in_store = stands.on_store.in_store

      of_module : EachImage m1 m2 (IsModuleOf s) → EachImage m0 m2 (IsModuleOf s)
      of_module = after_read m0 m1 m2 (IsModuleOf s) (IsModuleOf s) settled_module in_module keeps_module (λ c p. p)

      of_store : EachImage d1 d2 (IsStoreOf s) → EachImage d0 d2 (IsStoreOf s)
      of_store = after_read d0 d1 d2 (IsStoreOf s) (IsStoreOf s) settled_store in_store keeps_store (λ c p. p)

  -- each image of one disk goes with each of the other
  pub pairs_of : (t : Tables) (m0 m1 d0 d1 : Medium) → Carries o s result reply t m0 m1 d0 d1 → EachPair m0 m1 d0 d1 (ArePair s o)
  pairs_of t m0 m1 d0 d1 carries = ⊎_elim
      (λ rests. each_pair m0 m1 d0 d1 (IsModuleOf s) (IsEither IsStoreOf s o) (ArePair s o) rests.0 carries.on_store
      (λ c d left right. ⊎_elim
      (λ before. inl (left, before))
      (λ later. ⊎_elim
      (λ after. inr (inl ((rests.1 c left).0, after)))
      (λ between. inr (inr (between.0, between.1, ((rests.1 c left).1 between.0, between.2))))
      later)
      right))
      (λ rest. ⊎_elim
      (λ rests. each_pair m0 m1 d0 d1 (IsEither IsModuleOf s o) (IsStoreOf s) (ArePair s o) carries.on_module rests.0
      (λ c d left right. ⊎_elim
      (λ before. inl (before, right))
      (λ later. ⊎_elim
      (λ after. inr (inl (after, (rests.1 d right).0)))
      (λ between. inr (inr (between.0, between.1, (between.2, (rests.1 d right).1 between.0))))
      later)
      left))
      (λ none. each_pair m0 m1 d0 d1 (IsModuleOf s) (IsStoreOf s) (ArePair s o) none.0 none.1 (λ c d left right. inl (left, right)))
      rest)
      carries.one_disk

-- ---- a request

-- by the verdict that is known
pub performed_by : (s : State) (drawn : List ℕ) (request : Request) (v : Option Refusal) → verdict s drawn request ≡ v
    → performed s drawn request ≡ or_act v s drawn request
unfolding performed
performed_by s drawn request v is = ap (λ (x : Option Refusal). or_act x s drawn request) is

pub taken_for : (s : State) (drawn : List ℕ) (request : Request) (v : Option Refusal) → early_verdict s request ≡ v
    → taken_by s drawn request ≡ drawn_where v (bytes_drawn (draw_of request.name request) drawn)
taken_for s drawn request v is = ap (λ (x : Option Refusal). drawn_where x (bytes_drawn (draw_of request.name request) drawn)) is

-- a refusal, whatever the verb's rules say: no random byte is drawn, and at most the store was read
pub refused_serves : (s : State) (request : Request) (r : Refusal) (reply : List ℕ) (t : Tables) (m d0 d1 : Medium) (left : Option (List ℕ))
    → ((v : Option Refusal) → verdict_by s request v ≡ Some r) → reply ≡ spelled (Refused r.rule r.operand) → IsSettled m → IsSettled d0 → Keeps d0 d1 → Stands s t m d0
    → Serves s request (Ok tt) reply t (world m d0 left) (world m d1 left)
refused_serves s request r reply t m d0 d1 left is text settled_module settled_store keeps stands =
    let o : Outcome = performed s [] request in
    let by = performed_by s [] request (Some r) (is (whole_verb_verdict s [] request)) in
    let carries : Carries o s (Ok tt) reply t m m d0 d1 =
    carries_after_reads o s (Ok tt) reply t t m m m d0 d1 d1 settled_module settled_store stands (keeps_still m) keeps
    (still_carries o s (Ok tt) reply t m d1 (ap (λ (x : Outcome). x.state) by) (text ∙ ap (λ (x : Outcome). spelled x.reply) (sym by)) tt
    settled_module (settled_kept d0 d1 keeps settled_store) (stands_kept s t m m d0 d1 (keeps_still m) keeps stands)) in
    record {
      drawn = [];
      carries = carries;
      pairs = pairs_of o s (Ok tt) reply t m m d0 d1 carries;
      random = inl (record { consumed = Consumes-nil left; size = sym (taken_for s [] request (Some r) (is (verb_verdict s request))) });
      permitted = λ fault. cc fault;
      undrawn = λ fault. cc fault;
    }

abbrev error : Stop → Result (Unit {0}) Stop
error stop = Err stop

same_stop : (a b : Stop) → error a ≡ error b → a ≡ b
same_stop a b is = cc is

-- a fault of a device, before anything was written
pub stopped_serves : (s : State) (request : Request) (stop : Stop) (reply : List ℕ) (before t : Tables) (m0 m1 d0 d1 : Medium) (left now : Option (List ℕ))
    → IsFault stop → (stop ≡ EntropyFault → MayDraw s request) → IsSettled m0 → IsSettled d0 → Keeps m0 m1 → Keeps d0 d1 → Stands s before m0 d0
    → Serves s request (Err stop) reply t (world m0 d0 left) (world m1 d1 now)
stopped_serves s request stop reply before t m0 m1 d0 d1 left now fault permitted settled_module settled_store keeps_module keeps_store stands =
    let o : Outcome = performed s [] request in
    let in_module = stands.on_module.in_module in
    let in_store = stands.on_store.in_store in
    let carries : Carries o s (Err stop) reply t m0 m1 d0 d1 = record {
      done = tt;
      on_module = read_images m0 m1 (IsModuleOf s) (IsEither IsModuleOf s o) settled_module in_module keeps_module (λ c p. inl p);
      on_store = read_images d0 d1 (IsStoreOf s) (IsEither IsStoreOf s o) settled_store in_store keeps_store (λ c p. inl p);
      one_disk = inr (inr (
        read_images m0 m1 (IsModuleOf s) (IsModuleOf s) settled_module in_module keeps_module (λ c p. p),
        read_images d0 d1 (IsStoreOf s) (IsStoreOf s) settled_store in_store keeps_store (λ c p. p),
      ));
      module_outside = read_outside o.module_cells m0 m1 settled_module keeps_module;
      store_outside = read_outside o.store_cells d0 d1 settled_store keeps_store;
      stops = fault;
    } in
    let nothing : Unwritten (world m0 d0 left) (world m1 d1 now) = record { on_module = keeps_module.moments; on_store = keeps_store.moments } in
    record {
      drawn = [];
      carries = carries;
      pairs = pairs_of o s (Err stop) reply t m0 m1 d0 d1 carries;
      random = inr (tt, nothing);
      permitted = λ is. permitted (same_stop stop EntropyFault is);
      undrawn = λ is. nothing;
    }

-- it was carried out, with these random bytes; the random source didn't fail
pub drawn_serves : (s : State) (request : Request) (drawn : List ℕ) (result : Result (Unit {0}) Stop) (reply : List ℕ) (t : Tables) (m0 m1 d0 d1 : Medium)
    (left now : Option (List ℕ)) → Carries (performed s drawn request) s result reply t m0 m1 d0 d1 → HasDrawn drawn (taken_by s drawn request) left now
    → (result ≡ Err EntropyFault → ⊥) → Serves s request result reply t (world m0 d0 left) (world m1 d1 now)
drawn_serves s request drawn result reply t m0 m1 d0 d1 left now carries random never = record {
  drawn = drawn;
  carries = carries;
  pairs = pairs_of (performed s drawn request) s result reply t m0 m1 d0 d1 carries;
  random = inl random;
  permitted = λ fault. absurd (never fault);
  undrawn = λ fault. absurd (never fault);
}

-- a verb decided, and what it decided was carried out
pub decided_serves : (s : State) (request : Request) (result : Result (Unit {0}) Stop) (reply : List ℕ) (t : Tables) (m0 m1 d0 d1 : Medium)
    (left now : Option (List ℕ)) {bench : Bench} {e : CodeEffect} {before : List ℕ} → ((v : Option Refusal) → verdict_by s request v ≡ v)
    → Decides s bench request e before left now
    → ((drawn : List ℕ) → IsDecided s bench drawn request e before
    → Carries (or_act (whole_verb_verdict s drawn request) s drawn request) s result reply t m0 m1 d0 d1)
    → (result ≡ Err EntropyFault → ⊥) → Serves s request result reply t (world m0 d0 left) (world m1 d1 now)
decided_serves s request result reply t m0 m1 d0 d1 left now is decides carries never =
    let drawn = decides.drawn in
    let whole = whole_verb_verdict s drawn request in
    drawn_serves s request drawn result reply t m0 m1 d0 d1 left now
    (subst (λ (x : Outcome). Carries x s result reply t m0 m1 d0 d1) (sym (performed_by s drawn request whole (is whole))) (carries drawn decides.decided))
    (record {
      consumed = decides.random.consumed;
      size = decides.random.size ∙ sym (taken_for s drawn request (verb_verdict s request) (is (verb_verdict s request)));
    })
    never

-- a key is under the old master key where one that was granted is
pub old_as : (s : State) (bench : Bench) (os : Operands) (granted : Granted) (warns : Bool) → AreGranted s bench os granted → warns ≡ any_old_key granted
    → any_old s (listed os) ≡ warns
old_as s bench os granted warns grants is = any_old_are s bench os granted grants ∙ sym is

-- both disks were read before
pub serves_after_reads : (s : State) (request : Request) (result : Result (Unit {0}) Stop) (reply : List ℕ) (before t : Tables) (m0 m1 m2 d0 d1 d2 : Medium)
    (left now : Option (List ℕ)) → IsSettled m0 → IsSettled d0 → Keeps m0 m1 → Keeps d0 d1 → Stands s before m0 d0
    → Serves s request result reply t (world m1 d1 left) (world m2 d2 now) → Serves s request result reply t (world m0 d0 left) (world m2 d2 now)
serves_after_reads s request result reply before t m0 m1 m2 d0 d1 d2 left now settled_module settled_store keeps_module keeps_store stands serves =
    let o : Outcome = performed s serves.drawn request in
    let carries : Carries o s result reply t m0 m2 d0 d2 =
    carries_after_reads o s result reply before t m0 m1 m2 d0 d1 d2 settled_module settled_store stands keeps_module keeps_store serves.carries in
    record {
      drawn = serves.drawn;
      carries = carries;
      pairs = pairs_of o s result reply t m0 m2 d0 d2 carries;
      random = ⊎_elim (λ drawn. inl drawn) (λ stopped. inr (stopped.0, goes stopped.1)) serves.random;
      permitted = serves.permitted;
      undrawn = λ is. goes (serves.undrawn is);
    }
  where
    goes : Unwritten (world m1 d1 left) (world m2 d2 now) → Unwritten (world m0 d0 left) (world m2 d2 now)
    goes nothing = record {
      on_module = unwritten_after_read m0 m1 m2 keeps_module nothing.on_module;
      on_store = unwritten_after_read d0 d1 d2 keeps_store nothing.on_store;
    }
