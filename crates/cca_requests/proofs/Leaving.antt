-- What a call leaves of both disks, of the reply and of the memory, whatever the disks hold.
use Rattle.std.proofs.Common.{◌≡◌, ℕ, List, Option, None, Result, Ok, Err, refl, sym, ap, ◌∙◌, subst, arith}
use Rattle.std.specs.Prelude.{◌≤◌, IsOk, IsSome, OnOk, OnErr, IfErr}
use Rattle.std.proofs.lemmas.Result.{on_err_weaker}
use Rattle.device_cells.specs.Faults.{Rose}
use Rattle.device_cells.specs.Medium.{Medium, Told, IsSettled, Becomes, Keeps}
use Rattle.device_cells.specs.SpareBytes.{Turned}
use Rattle.device_cells.proofs.Media.{becomes_same, told_from, told_at}
use Rattle.device_cells.proofs.SpareLemmas.{turned_same}
use Rattle.cca_roles.specs.declared.roles.Role.{Role}
use Rattle.key_cells.specs.Bench.{Bench}
use Rattle.key_cells.specs.Lease.{loan_of}
use Rattle.key_cells.specs.declared.leases.Lease.{Lease}
use Rattle.record_bodies.specs.Entries.{row_directory}
use Rattle.record_bodies.specs.StoreStands.{HoldsRows}
use Rattle.record_bodies.specs.declared.rows.Row.{Row}
use Rattle.master_registers.specs.declared.registers.Registers.{Registers}
use Rattle.line_service.specs.Devices.{DiskLeft, devices}
use Rattle.line_service.specs.declared.stops.Device.{Device}
use Rattle.line_service.specs.declared.stops.Device.TheVariants.{Module, Store}
use Rattle.line_service.specs.declared.stops.Stop.{Stop}
use Rattle.line_service.specs.declared.stops.Stop.TheVariants.{Damaged, EntropyFault, InputLimit, ModuleFault, ReadFault, StoreFault, WriteFault}
use Rattle.request_rules.specs.Judging.{IsStoreStop}
use Rattle.request_rules.specs.Standing.{Tables, tables}
use Rattle.cca_machine.specs.Deciding.{GoesThrough, IsReady, WritesStore}
use Rattle.cca_machine.specs.declared.effects.Effect.{Effect}
use Rattle.line_service.specs.Lines.{EndsInNewline}
use Rattle.reencipher.specs.Runs.{IsLabelCell}
use Rattle.cca_requests.specs.Serving.{IsSound, IsLoadedStop, KeepsToEffect, LeavesModule, LeavesStore, Leaves}

pub ok_always : {P : Type 0} (result : Result (Unit {0}) Stop) → P → OnOk result P
ok_always (Ok u) p = p
ok_always (Err stop) p = tt

-- a disk that is as it was
pub still_turned : (count : ℕ) (m0 m1 : Medium) → m1.size ≡ m0.size → m1.content ≡ m0.content → Becomes (Turned count) m0 m1
still_turned count m0 m1 size content = becomes_same m0 m1 (Turned count) size content (turned_same count)

-- a disk that was read, and changed after that
turned_after : (count : ℕ) (m0 m1 m2 : Medium) (result : Result (Unit {0}) Stop) → Keeps m0 m1 → OnOk result (Becomes (Turned count) m1 m2)
    → OnOk result (Becomes (Turned count) m0 m2)
turned_after count m0 m1 m2 (Ok u) keeps becomes = record {
  size = becomes.size ∙ keeps.moments.size;
  told = λ c is. let from = becomes.told c is in (from.0, sym keeps.content ∙ from.1, from.2);
  still = λ some. becomes.still (subst IsSome (sym keeps.content) some);
}
turned_after count m0 m1 m2 (Err stop) keeps becomes = tt

-- a disk that no call touched
pub untouched_left : (m : Medium) (count : ℕ) (result : Result (Unit {0}) Stop) (stop : Stop) → IsSettled m → (result ≡ Err stop → ⊥)
    → DiskLeft m m count count (IsOk result) (result ≡ Err stop)
untouched_left m count result stop settled never = record {
  size = refl;
  still = λ some. some;
  settled = λ ok. settled;
  later = omega arith;
  fault = λ is. absurd (never is);
  quiet = λ none. refl;
}

pub still_module_left : (m : Medium) (count : ℕ) (reply : List ℕ) (roles : List (Option Role)) → EndsInNewline reply → IsSettled m → Told m (IsSound roles)
    → LeavesModule m m count count (Ok tt) reply roles roles
still_module_left m count reply roles line settled sound = record {
  disk = untouched_left m count (Ok tt) ModuleFault settled (λ is. cc is);
  told = λ some. some;
  turned = still_turned 33 m m refl refl;
  sound = sound;
  line = line;
  silent = tt;
  memory = tt;
  stops = tt;
}

pub still_store_left : (d : Medium) (count : ℕ) (reply : List ℕ) (rows : List (Option Row)) → EndsInNewline reply → IsSettled d → Told d (HoldsRows rows)
    → LeavesStore d d count count (Ok tt) reply rows rows
still_store_left d count reply rows line settled holds = record {
  disk = untouched_left d count (Ok tt) StoreFault settled (λ is. cc is);
  told = λ some. some;
  turned = still_turned 1024 d d refl refl;
  holds = holds;
  line = line;
  silent = tt;
  memory = tt;
  stops = tt;
}

-- what a call leaves that writes nothing
pub still_left : {m d : Medium} {m_count d_count : ℕ} {reply : List ℕ} {t : Tables} → EndsInNewline reply → IsSettled m → IsSettled d
    → Told m (IsSound t.roles) → Told d (HoldsRows t.rows)
    → Leaves (Ok tt) reply (record { old = devices m m_count d d_count None 0; new = devices m m_count d d_count None 0 }) t t
still_left {m} {d} {m_count} {d_count} {reply} {t} line settled_module settled_store sound holds = record {
  module_disk = untouched_left m m_count (Ok tt) ModuleFault settled_module (λ is. cc is);
  store_disk = untouched_left d d_count (Ok tt) StoreFault settled_store (λ is. cc is);
  module_told = λ some. some;
  store_told = λ some. some;
  module_turned = still_turned 33 m m refl refl;
  store_turned = still_turned 1024 d d refl refl;
  sound = sound;
  holds = holds;
  line = line;
  silent = tt;
  roles = tt;
  labels = tt;
}

never_store : (result : Result (Unit {0}) Stop) → IfErr result (λ stop. stop ≡ ModuleFault) → result ≡ Err StoreFault → ⊥
never_store (Ok u) stops is = cc is
never_store (Err stop) stops is = cc

never_module : (result : Result (Unit {0}) Stop) → IfErr result IsStoreStop → result ≡ Err ModuleFault → ⊥
never_module result stops is = subst (λ (r : Result (Unit {0}) Stop). IfErr r IsStoreStop) is stops

pub err_always : {P : Type 0} (result : Result (Unit {0}) Stop) → P → OnErr result P
err_always (Ok u) p = tt
err_always (Err stop) p = p

module _ {result : Result (Unit {0}) Stop} {reply : List ℕ} where
  -- of the registers, where the memory changes
  pub registers_left : {m0 m1 d : Medium} {before now count : ℕ} {roles later : List (Option Role)} {rows next : List (Option Row)}
      → LeavesModule m0 m1 before now result reply roles later → IsSettled d → Told d (HoldsRows rows)
      → ((image : List ℕ) → HoldsRows rows image → HoldsRows next image) → OnErr result (next ≡ rows)
      → Leaves result reply (record { old = devices m0 before d count None 0; new = devices m1 now d count None 0 }) (tables roles rows) (tables later next)
  registers_left {m0} {m1} {d} {before} {now} {count} {roles} {later} {rows} {next} left settled holds turns kept = record {
    module_disk = left.disk;
    store_disk = untouched_left d count result StoreFault settled (never_store result left.stops);
    module_told = left.told;
    store_told = λ some. some;
    module_turned = left.turned;
    store_turned = ok_always result (still_turned 1024 d d refl refl);
    sound = left.sound;
    holds = ok_always result (told_from d.content (HoldsRows next) (λ c is. turns c (told_at d.content (HoldsRows rows) c is holds)));
    line = left.line;
    silent = left.silent;
    roles = left.memory;
    labels = on_err_weaker result (λ is. ap row_directory is) kept;
  }

  -- of the module alone
  pub module_left : {m0 m1 d : Medium} {before now count : ℕ} {roles later : List (Option Role)} {rows : List (Option Row)}
      → LeavesModule m0 m1 before now result reply roles later → IsSettled d → Told d (HoldsRows rows)
      → Leaves result reply (record { old = devices m0 before d count None 0; new = devices m1 now d count None 0 }) (tables roles rows) (tables later rows)
  module_left left settled holds = registers_left left settled holds (λ image h. h) (err_always result refl)

  -- of the store alone
  pub store_left : {m d0 d1 : Medium} {count before now : ℕ} {roles : List (Option Role)} {rows later : List (Option Row)}
      → LeavesStore d0 d1 before now result reply rows later → IsSettled m → Told m (IsSound roles)
      → Leaves result reply (record { old = devices m count d0 before None 0; new = devices m count d1 now None 0 }) (tables roles rows) (tables roles later)
  store_left {m} {d0} {d1} {count} {before} {now} {roles} {rows} {later} left settled sound = record {
    module_disk = untouched_left m count result ModuleFault settled (never_module result left.stops);
    store_disk = left.disk;
    module_told = λ some. some;
    store_told = left.told;
    module_turned = ok_always result (still_turned 33 m m refl refl);
    store_turned = left.turned;
    sound = ok_always result sound;
    holds = left.holds;
    line = left.line;
    silent = left.silent;
    roles = err_always result refl;
    labels = left.memory;
  }

disk_after : (m0 m1 m2 : Medium) (before mid now : ℕ) (done failed : Type 0) → Keeps m0 m1 → mid ≡ before → DiskLeft m1 m2 mid now done failed
    → DiskLeft m0 m2 before now done failed
disk_after m0 m1 m2 before mid now done failed keeps quiet left = record {
  size = left.size ∙ keeps.moments.size;
  still = λ some. left.still (subst IsSome (sym keeps.content) some);
  settled = left.settled;
  later = subst (λ count. count ≤ now) quiet left.later;
  fault = λ h. subst (λ count. Rose count now) quiet (left.fault h);
  quiet = λ none. left.quiet none ∙ quiet;
}

-- what is left after a call that reads both disks, and another behind it
pub leaves_after_reads : {result : Result (Unit {0}) Stop} {reply : List ℕ} {m0 m1 m2 d0 d1 d2 : Medium} {m_before m_mid m_now d_before d_mid d_now : ℕ} {t later : Tables}
    → Keeps m0 m1 → m_mid ≡ m_before → Keeps d0 d1 → d_mid ≡ d_before
    → Leaves result reply (record { old = devices m1 m_mid d1 d_mid None 0; new = devices m2 m_now d2 d_now None 0 }) t later
    → Leaves result reply (record { old = devices m0 m_before d0 d_before None 0; new = devices m2 m_now d2 d_now None 0 }) t later
leaves_after_reads {result} {reply} {m0} {m1} {m2} {d0} {d1} {d2} {m_before} {m_mid} {m_now} {d_before} {d_mid} {d_now} {t} {later} keeps_m quiet_m keeps_d quiet_d left = record {
  module_disk = disk_after m0 m1 m2 m_before m_mid m_now (IsOk result) (result ≡ Err ModuleFault) keeps_m quiet_m left.module_disk;
  store_disk = disk_after d0 d1 d2 d_before d_mid d_now (IsOk result) (result ≡ Err StoreFault) keeps_d quiet_d left.store_disk;
  module_told = λ some. subst IsSome keeps_m.content (left.module_told some);
  store_told = λ some. subst IsSome keeps_d.content (left.store_told some);
  module_turned = turned_after 33 m0 m1 m2 result keeps_m left.module_turned;
  store_turned = turned_after 1024 d0 d1 d2 result keeps_d left.store_turned;
  sound = left.sound;
  holds = left.holds;
  line = left.line;
  silent = left.silent;
  roles = left.roles;
  labels = left.labels;
}

-- once the registers are loaded, the module is damaged no more
pub no_damage : (result : Result (Unit {0}) Stop) (cell : ℕ) → IfErr result IsLoadedStop → result ≡ Err (Damaged Module cell) → ⊥
no_damage result cell stops is = subst (λ (r : Result (Unit {0}) Stop). IfErr r IsLoadedStop) is stops

-- ---- what was called for an effect

-- no stop at all
pub still_keeps : {M D : Type 0} {e : Effect} {rows : List (Option Row)} {lease : Lease} {module_ : M} {store : D}
    → KeepsToEffect e (Ok tt) rows rows lease lease module_ module_ store store
still_keeps = record { stops = tt; entropy = λ is. cc is; kept = λ none. tt; writes = λ is. cc is; spared = λ none. refl; alone = λ writes. refl; through = λ device cell is. cc is; cell = λ n is. cc is; loan = refl }

module_stop : (stop : Stop) → stop ≡ ModuleFault → IsLoadedStop stop
module_stop stop is = subst IsLoadedStop (sym is) tt

pub store_stop : (stop : Stop) → IsStoreStop stop → IsLoadedStop stop
store_stop StoreFault is = tt
store_stop (Damaged Store cell) is = is
store_stop (Damaged Module cell) is = absurd is
store_stop EntropyFault is = absurd is
store_stop ModuleFault is = absurd is
store_stop ReadFault is = absurd is
store_stop WriteFault is = absurd is
store_stop InputLimit is = absurd is

if_err : {P Q : Stop → Type 0} (result : Result (Unit {0}) Stop) → ((stop : Stop) → P stop → Q stop) → IfErr result P → IfErr result Q
if_err (Ok u) weaker has = tt
if_err (Err stop) weaker has = weaker stop has

pub stops_as : (P : Stop → Type 0) {fault : Stop} (result : Result (Unit {0}) Stop) → IfErr result P → result ≡ Err fault → P fault
stops_as P result stops is = subst (λ (r : Result (Unit {0}) Stop). IfErr r P) is stops

-- what stops by one fault alone comes upon no damage
pub only_fault : (fault : Stop) (result : Result (Unit {0}) Stop) → IfErr result (λ stop. stop ≡ fault) → ((device : Device) (cell : ℕ) → fault ≡ Damaged device cell → ⊥)
    → (device : Device) (cell : ℕ) → result ≡ Err (Damaged device cell) → ⊥
only_fault fault result stops apart device cell is = apart device cell (sym (stops_as (λ stop. stop ≡ fault) result stops is))

module_apart : (device : Device) (cell : ℕ) → ModuleFault ≡ Damaged device cell → ⊥
module_apart device cell is = cc is

store_apart : (device : Device) (cell : ℕ) → StoreFault ≡ Damaged device cell → ⊥
store_apart device cell is = cc is

-- a change of the store that fails alone
pub fails_alone : {P : Type 0} (result : Result (Unit {0}) Stop) → IfErr result (λ stop. stop ≡ StoreFault) → (device : Device) (cell : ℕ) → result ≡ Err (Damaged device cell) → P
fails_alone result stops device cell is = absurd (only_fault StoreFault result stops store_apart device cell is)

module _ {M D : Type 0} {e : Effect} {rows later : List (Option Row)} {lease still : Lease} (result : Result (Unit {0}) Stop) where
  -- the module alone
  pub module_keeps : {old new : M} {store : D} → (WritesStore e → ⊥) → IfErr result (λ stop. stop ≡ ModuleFault) → OnErr result (later ≡ rows) → loan_of still ≡ loan_of lease
      → KeepsToEffect e result rows later lease still old new store store
  module_keeps none stops kept loan = record {
    stops = if_err result module_stop stops;
    entropy = λ is. cc (stops_as (λ stop. stop ≡ ModuleFault) result stops is);
    kept = λ none. kept;
    writes = λ is. cc (stops_as (λ stop. stop ≡ ModuleFault) result stops is);
    spared = λ none. refl;
    alone = λ writes. absurd (none writes);
    through = λ device cell is. absurd (only_fault ModuleFault result stops module_apart device cell is);
    cell = λ n is. absurd (only_fault ModuleFault result stops module_apart Store n is);
    loan = loan;
  }

  -- the store, for an effect that writes it
  pub store_keeps : {module_ : M} {old new : D} → WritesStore e → ((device : Device) (cell : ℕ) → result ≡ Err (Damaged device cell) → GoesThrough e) → ((n : ℕ) → result ≡ Err (Damaged Store n) → IsLabelCell rows n) → IfErr result IsStoreStop → ((GoesThrough e → ⊥) → OnErr result (later ≡ rows)) → loan_of still ≡ loan_of lease
      → KeepsToEffect e result rows later lease still module_ module_ old new
  store_keeps writes through cell stops kept loan = record {
    stops = if_err result store_stop stops;
    entropy = λ is. absurd (stops_as IsStoreStop result stops is);
    kept = kept;
    writes = λ is. writes;
    spared = λ none. absurd (none writes);
    alone = λ writes. refl;
    through = through;
    cell = cell;
    loan = loan;
  }

-- what is certain of an effect is so of its equal
pub ready_as : (held : Registers) (bench : Bench) (rows : List (Option Row)) (reply : List ℕ) {e known : Effect} → e ≡ known → IsReady held bench rows e reply
    → IsReady held bench rows known reply
ready_as held bench rows reply {e} {known} is ready = subst (λ (x : Effect). IsReady held bench rows x reply) is ready
