-- What a call of a request hands on to the next one, and what it leaves where it ends.
use Rattle.std.proofs.Common.{◌≡◌, ◌∙◌, ℕ, List, [], None, Option, Result, Ok, Err, ap, refl, sym, subst, arith}
use Rattle.std.specs.Prelude.{◌≤◌, IfErr, IsOk, IsSome, IsTrue}
use Rattle.device_cells.specs.Medium.{IsSettled, Keeps, Medium, Told}
use Rattle.device_cells.specs.Faults.{Rose}
use Rattle.device_cells.proofs.Media.{keeps_still, settled_kept, told_still}
use Rattle.key_cells.specs.Bench.{Bench}
use Rattle.key_cells.specs.Lease.{bench_of}
use Rattle.key_cells.specs.declared.leases.Lease.{Lease}
use Rattle.key_records.specs.Changes.{KeepsAllButBody}
use Rattle.record_bodies.specs.StoreStands.{HasStore, HoldsRows}
use Rattle.record_bodies.specs.declared.rows.Row.{Row}
use Rattle.cca_roles.specs.RolesStand.{StandsForRoles}
use Rattle.line_service.specs.Devices.{DiskLeft, devices}
use Rattle.line_service.specs.declared.stops.Device.TheVariants.{Module, Store}
use Rattle.line_service.specs.declared.stops.Stop.{Stop}
use Rattle.line_service.specs.declared.stops.Stop.TheVariants.{Damaged, EntropyFault, InputLimit, ModuleFault, ReadFault, StoreFault, WriteFault}
use Rattle.master_registers.specs.Changes.{HasLoadCause}
use Rattle.master_registers.specs.Loaded.{IsLoaded, Loaded, StandsForLoaded, masters_in}
use Rattle.master_registers.specs.Masters.{Masters}
use Rattle.master_registers.specs.declared.faults.LoadFault.{LoadFault}
use Rattle.master_registers.specs.declared.faults.LoadFault.TheVariants as load_fault
use Rattle.master_registers.specs.declared.registers.Registers.{Registers}
use Rattle.verb_script.specs.Grammar.{Request}
use Rattle.cca_machine.specs.Operands.{Operands, operands}
use Rattle.cca_machine.specs.State.{State, module_size}
use Rattle.cca_machine.specs.Verdict.{needs_master}
use Rattle.cca_machine.specs.Granted.{IsAccepted}
use Rattle.cca_machine.specs.declared.granted.Granted.{Granted}
use Rattle.request_rules.specs.Judging.{AreKeyedOperands, AreShaped, IsStoreStop}
use Rattle.request_rules.specs.Standing.{Tables}
use Rattle.request_rules.specs.declared.judging.Verdict.{Verdict}
use Rattle.request_rules.specs.declared.judging.Verdict.TheVariants as verdict
use Rattle.cca_machine.specs.Decided.{HasPassed}
use Rattle.cca_machine.specs.Deciding.{ChangesPlaces}
use Rattle.cca_requests.specs.Serving.{DrawsOnly, HasDisks, IsLoadedStop, IsRequestStop, Leaves, SparesStore}
use Rattle.cca_requests.proofs.Leaving.{stops_as, untouched_left}
use Rattle.cca_requests.proofs.Registers.{loaded_places}
use Rattle.key_records.proofs.ReadLaws.{loaded_with}

-- ---- what is handed on

loaded_without : (m : Masters) (held : Registers) (bench : Bench) (bytes : List ℕ) → Loaded m held (record bench { body = bytes }) → Loaded m held bench
loaded_without m held bench bytes loaded = record {
  valid = loaded.valid;
  placed = record { coming = loaded.placed.coming; current = loaded.placed.current; former = loaded.placed.former };
  told = loaded.told;
}

pub store_kept : (rows : List (Option Row)) (d0 d1 : Medium) → Keeps d0 d1 → HasStore rows d0 → HasStore rows d1
store_kept rows d0 d1 keeps store = record {
  size = keeps.moments.size ∙ store.size;
  settled = settled_kept d0 d1 keeps store.settled;
  holds = told_still d0 d1 (HoldsRows rows) keeps store.holds;
}

-- the store was read, and the body of the bench with it
pub disks_read : (held : Registers) (old new : Lease) (t : Tables) (m d0 d1 : Medium) → KeepsAllButBody old new → Keeps d0 d1 → HasDisks held (bench_of old) t m d0
    → HasDisks held (bench_of new) t m d1
disks_read held old new t m d0 d1 rest keeps disks =
    let bench = bench_of old in
    let body = (bench_of new).body in
    subst (λ (b : Bench). HasDisks held b t m d1) (sym (ap bench_of rest)) (record {
      at = record {
        size = disks.at.size;
        settled = disks.at.settled;
        loaded = loaded_with (masters_in held bench) held bench body disks.at.loaded;
        stands = disks.at.stands;
        remembered = disks.at.remembered;
      };
      store = store_kept t.rows d0 d1 keeps disks.store;
    })

-- a verb changed its places
pub disks_decided : (held : Registers) (old new : Lease) (t : Tables) (m d : Medium) → ChangesPlaces old new → HasDisks held (bench_of old) t m d
    → HasDisks held (bench_of new) t m d
disks_decided held old new t m d places disks =
    let bench = bench_of old in
    subst (λ (b : Bench). HasDisks held b t m d) (sym (ap bench_of places)) (record {
      at = record {
        size = disks.at.size;
        settled = disks.at.settled;
        loaded = loaded_places (masters_in held bench) held bench (bench_of new) disks.at.loaded;
        stands = disks.at.stands;
        remembered = disks.at.remembered;
      };
      store = disks.store;
    })

-- the registers were loaded
pub disks_loaded : (held : Registers) (bench : Bench) (t : Tables) (m0 m1 d : Medium) → Keeps m0 m1 → m0.size ≡ module_size → IsSettled m0
    → Told m0 (λ image. StandsForRoles image t.roles) → IsLoaded held bench → Told m1 (StandsForLoaded held bench) → HasStore t.rows d → HasDisks held bench t m1 d
disks_loaded held bench t m0 m1 d keeps size settled remembered loaded stands store = record {
  at = record {
    size = keeps.moments.size ∙ size;
    settled = settled_kept m0 m1 keeps settled;
    loaded = loaded;
    stands = stands;
    remembered = told_still m0 m1 (λ image. StandsForRoles image t.roles) keeps remembered;
  };
  store = store;
}

module _ (request : Request) (held : Registers) (rows : List (Option Row)) (old new : Lease) (granted : Granted) where
  -- the operands were judged, and broke no rule
  pub has_passed : {os : Operands} {judged : Verdict} → IsAccepted request → os ≡ operands request → AreShaped rows os judged
      → ((m : Masters) → Loaded m held (bench_of old) → AreKeyedOperands m os judged) → judged ≡ verdict.Granted granted → KeepsAllButBody old new
      → (IsTrue (needs_master request.name) → IsSome held.current_pattern) → HasPassed request granted held rows (bench_of new)
  has_passed {os} {judged} accepted table shaped keyed is rest master =
      let bench = bench_of old in
      let body = (bench_of new).body in
      let shapes : AreShaped rows (operands request) (verdict.Granted granted) =
      subst (λ (v : Verdict). AreShaped rows (operands request) v) is (subst (λ (o : Operands). AreShaped rows o judged) table shaped) in
      subst (λ (b : Bench). HasPassed request granted held rows b) (sym (ap bench_of rest)) (record {
        accepted = accepted;
        shaped = shapes;
        keyed = λ m loaded.
            let keys : AreKeyedOperands m (operands request) (verdict.Granted granted) =
            subst (λ (v : Verdict). AreKeyedOperands m (operands request) v) is
            (subst (λ (o : Operands). AreKeyedOperands m o judged) table (keyed m (loaded_without m held bench body loaded))) in
            keys;
        master = master;
      })

-- ---- where it ends

pub draws_none : {E : Type 0} {P : State → Type 0} {request : Request} {entropy : E} {count : ℕ} (result : Result (Unit {0}) Stop) → (result ≡ Err EntropyFault → ⊥)
    → DrawsOnly P request result entropy entropy count count
draws_none result never = record {
  entropy = record { later = omega arith; fault = λ is. absurd (never is); quiet = λ none. refl };
  untouched = λ s stands early. refl;
  undrawn = λ none. refl;
  drawing = λ is. absurd (never is);
}

pub spares_still : {D : Type 0} {request : Request} {store : D} (result : Result (Unit {0}) Stop) → (result ≡ Err StoreFault → ⊥) → SparesStore request result store store
spares_still result never = record { named = λ is. absurd (never is); spared = λ none. refl }

abbrev served : Result (Unit {0}) Stop
served = Ok tt

pub no_stop : (fault : Stop) → served ≡ Err fault → ⊥
no_stop fault is = cc is

pub request_stop : (result : Result (Unit {0}) Stop) → IfErr result IsLoadedStop → IfErr result IsRequestStop
request_stop (Ok u) stops = tt
request_stop (Err EntropyFault) stops = tt
request_stop (Err ModuleFault) stops = tt
request_stop (Err StoreFault) stops = tt
request_stop (Err (Damaged Module cell)) stops = absurd stops
request_stop (Err (Damaged Store cell)) stops = stops
request_stop (Err ReadFault) stops = absurd stops
request_stop (Err WriteFault) stops = absurd stops
request_stop (Err InputLimit) stops = absurd stops

abbrev load_fails : LoadFault → Result Registers LoadFault
load_fails fault = Err fault

load_apart : load_fails load_fault.Damaged ≡ load_fails load_fault.DiskFault → ⊥
load_apart is = cc is

abbrev fails : (T : Type 0) → Stop → Result T Stop
fails T stop = Err stop

read_disk : (d0 d1 : Medium) (before now : ℕ) (done failed : Type 0) → Keeps d0 d1 → (done → ⊥) → before ≤ now → (failed → Rose before now) → ((failed → ⊥) → now ≡ before)
    → DiskLeft d0 d1 before now done failed
read_disk d0 d1 before now done failed keeps never later fault quiet = record {
  size = keeps.moments.size;
  still = λ some. subst IsSome (sym keeps.content) some;
  settled = λ ok. absurd (never ok);
  later = later;
  fault = fault;
  quiet = quiet;
}

module _ {stop : Stop} (reply : List ℕ) {t : Tables} where
  -- both disks were read at most
  stopped_left : (m0 m1 d0 d1 : Medium) {m_before m_now d_before d_now : ℕ} → Keeps m0 m1 → Keeps d0 d1
      → DiskLeft m0 m1 m_before m_now (IsOk (fails (Unit {0}) stop)) (fails (Unit {0}) stop ≡ Err ModuleFault)
      → DiskLeft d0 d1 d_before d_now (IsOk (fails (Unit {0}) stop)) (fails (Unit {0}) stop ≡ Err StoreFault) → reply ≡ []
      → Leaves (Err stop) reply (record { old = devices m0 m_before d0 d_before None 0; new = devices m1 m_now d1 d_now None 0 }) t t
  stopped_left m0 m1 d0 d1 keeps_m keeps_d left_m left_d silent = record {
    module_disk = left_m;
    store_disk = left_d;
    module_told = λ some. subst IsSome keeps_m.content some;
    store_told = λ some. subst IsSome keeps_d.content some;
    module_turned = tt;
    store_turned = tt;
    sound = tt;
    holds = tt;
    line = tt;
    silent = silent;
    roles = refl;
    labels = refl;
  }

  -- a stop where the store is read
  pub store_stopped : {T : Type 0} {m d0 d1 : Medium} {count before now : ℕ} → IsSettled m → Keeps d0 d1 → IsStoreStop stop
      → DiskLeft d0 d1 before now (IsOk (fails T stop)) (fails T stop ≡ Err StoreFault) → reply ≡ []
      → Leaves (Err stop) reply (record { old = devices m count d0 before None 0; new = devices m count d1 now None 0 }) t t
  store_stopped {T} {m} {d0} {d1} {count} {before} {now} settled keeps stops left silent =
      stopped_left m m d0 d1 (keeps_still m) keeps
      (untouched_left m count (Err stop) ModuleFault settled (λ is. absurd (stops_as IsStoreStop (Err stop) stops is)))
      (read_disk d0 d1 before now (IsOk (fails (Unit {0}) stop)) (fails (Unit {0}) stop ≡ Err StoreFault) keeps (λ ok. cc ok) left.later
      (λ is. let same : stop ≡ StoreFault = cc is in left.fault (ap Err same))
      (λ none. left.quiet (λ is. let same : stop ≡ StoreFault = cc is in none (ap Err same))))
      silent

  -- a stop where the registers are loaded
  load_stopped : (m0 m1 d : Medium) {before now count : ℕ} → IsSettled d → Keeps m0 m1 → (stop ≡ StoreFault → ⊥) → before ≤ now
      → (stop ≡ ModuleFault → Rose before now) → ((stop ≡ ModuleFault → ⊥) → now ≡ before) → reply ≡ []
      → Leaves (Err stop) reply (record { old = devices m0 before d count None 0; new = devices m1 now d count None 0 }) t t
  load_stopped m0 m1 d {before} {now} {count} settled keeps never later fault quiet silent =
      stopped_left m0 m1 d d keeps (keeps_still d)
      (read_disk m0 m1 before now (IsOk (fails (Unit {0}) stop)) (fails (Unit {0}) stop ≡ Err ModuleFault) keeps (λ ok. cc ok) later
      (λ is. fault (cc is))
      (λ none. quiet (λ is. none (ap Err is))))
      (untouched_left d count (Err stop) StoreFault settled (λ is. never (cc is)))
      silent

  -- a stop before a disk is called
  pub decide_stopped : {m d : Medium} {m_count d_count : ℕ} → IsSettled m → IsSettled d → stop ≡ EntropyFault → reply ≡ []
      → Leaves (Err stop) reply (record { old = devices m m_count d d_count None 0; new = devices m m_count d d_count None 0 }) t t
  decide_stopped {m} {d} {m_count} {d_count} settled_m settled_d is silent =
      stopped_left m m d d (keeps_still m) (keeps_still d)
      (untouched_left m m_count (Err stop) ModuleFault settled_m (λ failed. let no : EntropyFault ≡ ModuleFault = sym is ∙ cc failed in cc no))
      (untouched_left d d_count (Err stop) StoreFault settled_d (λ failed. let no : EntropyFault ≡ StoreFault = sym is ∙ cc failed in cc no))
      silent

-- the module failed while the registers were loaded
pub load_failed : (reply : List ℕ) (t : Tables) (m0 m1 d : Medium) {before now count : ℕ} {r : Result Registers LoadFault} → IsSettled d → Keeps m0 m1
    → HasLoadCause before now r → r ≡ Err load_fault.DiskFault → reply ≡ []
    → Leaves (Err ModuleFault) reply (record { old = devices m0 before d count None 0; new = devices m1 now d count None 0 }) t t
load_failed reply t m0 m1 d settled keeps cause is silent =
    load_stopped reply m0 m1 d settled keeps (λ other. cc other) cause.later (λ failed. cause.failed is) (λ never. absurd (never refl)) silent

-- they were damaged
pub load_damaged : (reply : List ℕ) (t : Tables) (m0 m1 d : Medium) {before now count : ℕ} {r : Result Registers LoadFault} → IsSettled d → Keeps m0 m1
    → HasLoadCause before now r → r ≡ Err load_fault.Damaged → reply ≡ []
    → Leaves (Err (Damaged Module 0)) reply (record { old = devices m0 before d count None 0; new = devices m1 now d count None 0 }) t t
load_damaged reply t m0 m1 d settled keeps cause is silent =
    load_stopped reply m0 m1 d settled keeps (λ other. cc other) cause.later (λ failed. cc failed) (λ never. cause.quiet (λ failed. load_apart (sym is ∙ failed))) silent
